-- Lists of records that come to the same map.
use Rattle.std.specs.Prelude.{◌≡◌, List, [], ◌∷◌, ◌++◌, Option}
use Rattle.std.proofs.Common.{refl, ap, sym, ◌∙◌, subst, inl, inr}
use Rattle.tmf_model.specs.Commits.{after_commit, after_commits}
use Rattle.tmf_model.specs.RecordMap.{RecordMap}
use Rattle.tmf_model.specs.declared.script.Transaction.{Transaction}
use Rattle.tmf_model.specs.declared.transid.Transid.{Transid}
use Rattle.trail_files.specs.Recovered.{commits_of}
use Rattle.trail_files.specs.declared.monitor_record.MonitorRecord.{MonitorRecord}
use Rattle.trail_files.specs.declared.monitor_record.MonitorRecord.TheVariants.{Abort, Commit, Start}
use Rattle.node_machine.specs.Same.{Among}
use Rattle.node_machine.specs.SameLaws.{among_left}

module _ (meaning : Transid → Option Transaction) where
  -- the map behind records
  abbrev pub behind : List MonitorRecord → RecordMap → RecordMap
  behind records map_ = after_commits meaning (commits_of records) map_

  -- the record changes no map
  abbrev pub IsIdle : MonitorRecord → Type 0
  IsIdle (Commit t) = (map_ : RecordMap) → after_commit (meaning t) map_ ≡ map_
  IsIdle _ = Unit {0}

  pub all_idle : (records : List MonitorRecord) (map_ : RecordMap) → ((x : MonitorRecord) → Among records x → IsIdle x) → behind records map_ ≡ map_
  all_idle [] map_ idle = refl
  all_idle (Start epoch ∷ records) map_ idle = all_idle records map_ (λ x has. idle x (inr has))
  all_idle (Abort t ∷ records) map_ idle = all_idle records map_ (λ x has. idle x (inr has))
  all_idle (Commit t ∷ records) map_ idle = all_idle records (after_commit (meaning t) map_) (λ x has. idle x (inr has)) ∙ idle (Commit t) (inl refl) map_

  one_more : (x : MonitorRecord) (records others : List MonitorRecord) (map_ : RecordMap) → ((m : RecordMap) → behind records m ≡ behind others m) → behind (x ∷ records) map_ ≡ behind (x ∷ others) map_
  one_more (Start epoch) records others map_ same = same map_
  one_more (Abort t) records others map_ same = same map_
  one_more (Commit t) records others map_ same = same (after_commit (meaning t) map_)

  -- Of two first parts of one list, each with what follows: where what the one has more than the other changes nothing, both come to one map.
  pub same_fold : (some more others rest : List MonitorRecord) (map_ : RecordMap) → some ++ more ≡ others ++ rest → ((x : MonitorRecord) → Among some x → Among rest x → IsIdle x) → ((x : MonitorRecord) → Among others x → Among more x → IsIdle x)
      → behind some map_ ≡ behind others map_
  same_fold [] more others rest map_ whole one other =
      sym (all_idle others map_ (λ x has. other x has (subst (λ (l : List MonitorRecord). Among l x) (sym whole) (among_left others rest x has))))
  same_fold (x ∷ some) more [] rest map_ whole one other =
      all_idle (x ∷ some) map_ (λ y has. one y has (subst (λ (l : List MonitorRecord). Among l y) whole (among_left (x ∷ some) more y has)))
  same_fold (x ∷ some) more (y ∷ others) rest map_ whole one other =
      let head : x ≡ y = cc (whole) in
      let tail : some ++ more ≡ others ++ rest = cc (whole) in
      one_more x some others map_ (λ m. same_fold some more others rest m tail (λ z has there. one z (inr has) there) (λ z has there. other z (inr has) there))
      ∙ ap (λ (z : MonitorRecord). behind (z ∷ others) map_) head

-- where each commit means the same, both folds come to one map
pub same_meaning : (meaning other : Transid → Option Transaction) (records : List MonitorRecord) (map_ : RecordMap)
    → ((t : Transid) → Among records (Commit t) → (m : RecordMap) → after_commit (meaning t) m ≡ after_commit (other t) m) → behind meaning records map_ ≡ behind other records map_
same_meaning meaning other [] map_ same = refl
same_meaning meaning other (Start epoch ∷ records) map_ same = same_meaning meaning other records map_ (λ t has. same t (inr has))
same_meaning meaning other (Abort u ∷ records) map_ same = same_meaning meaning other records map_ (λ t has. same t (inr has))
same_meaning meaning other (Commit u ∷ records) map_ same =
    ap (λ (m : RecordMap). behind meaning records m) (same u (inl refl) map_) ∙ same_meaning meaning other records (after_commit (other u) map_) (λ t has. same t (inr has))
