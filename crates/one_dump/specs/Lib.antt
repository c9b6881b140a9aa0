pub mod OneDump
