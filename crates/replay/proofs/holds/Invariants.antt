use Rattle.std.proofs.Common.{◌≡◌, ◌<◌, ℕ, length, slice_index}
use Rattle.replay.proofs.holds.Given as goal

-- So far the words are those that were told.
abbrev pub invariant-loop-at : goal.invariant-loop-at
invariant-loop-at g l = (k : ℕ) → k < l.at → k < length l.told → slice_index l.table k ≡ slice_index l.told k
