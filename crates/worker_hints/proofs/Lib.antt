-- Hints in deques.
mod HintMoves
