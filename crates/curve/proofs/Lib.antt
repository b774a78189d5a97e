pub mod Charts
pub mod Empty
pub mod JobPieces
pub mod LatestEnds
pub mod PieceWalk
pub mod Room
pub mod Telling
pub mod WordWalk
