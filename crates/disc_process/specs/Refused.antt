-- How a refused flush refuses a step.
use Rattle.audit_writer.specs.declared.lock.FlushRefused.{FlushRefused}
use Rattle.audit_writer.specs.declared.lock.FlushRefused.TheVariants as stopped
use Rattle.disc_process.specs.declared.refused.WriteRefused.{WriteRefused}
use Rattle.disc_process.specs.declared.refused.WriteRefused.TheVariants as refused

-- a step is refused as the flush was that it asked for
abbrev pub refused_from : FlushRefused → WriteRefused
refused_from (stopped.Failed device) = refused.Failed device
refused_from stopped.NoMemory = refused.NoMemory
