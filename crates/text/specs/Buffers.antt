-- Lent buffers, written over in part.
-- Assumes nothing.
use Rattle.std.specs.Prelude.{ℕ, ◌+◌, List, ◌++◌, length, take, drop}

-- a buffer with bytes written over it from a place on; what stands before and behind them stays
unfoldable pub overwritten : (at : ℕ) (new buffer : List ℕ) → List ℕ
overwritten at new buffer = take at buffer ++ (new ++ drop (at + length new) buffer)
