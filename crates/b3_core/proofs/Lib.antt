mod StandardFacts
pub mod EachLane
pub mod EachRow
pub mod ByteTurns
pub mod WholeChunks
pub mod Hashings
pub mod InPlaces
pub mod Nodes
pub mod OutputBytes
pub mod SubtreePlaces
pub mod WordTurns
