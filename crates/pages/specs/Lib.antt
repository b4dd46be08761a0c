pub mod Piece
pub mod Pieces
pub mod Text
