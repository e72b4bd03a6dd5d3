pub mod OnParts
