-- How the tables hold it: the regions of the work table, one word a node unless said otherwise. This is the second layer: exact words, which no public
-- contract cites; what is promised is State and Allocator. An option is 0, or n + 1.
use Rattle.std.specs.Prelude.{ℕ, ◌+◌, ◌*◌, ◌≤◌, List, length}
use Rattle.allocate.specs.declared.Frame.{Frame}

-- the control slot of a hoisted computation, if it is one
abbrev pub slot_at : Frame → ℕ → ℕ
slot_at frame node = 2 * frame.nodes + node

-- the first node of its source in this phase, else the node itself
abbrev pub canonical_at : Frame → ℕ → ℕ
canonical_at frame node = 4 * frame.nodes + node

-- the position of the next task that reads it, if one does
abbrev pub next_at : Frame → ℕ → ℕ
next_at frame node = 5 * frame.nodes + node

-- the register that holds it, if one does
abbrev pub holder_at : Frame → ℕ → ℕ
holder_at frame node = 6 * frame.nodes + node

-- the slot that holds it, if one does
abbrev pub spilled_at : Frame → ℕ → ℕ
spilled_at frame node = 7 * frame.nodes + node

-- not 0 where memory still holds it
abbrev pub fresh_at : Frame → ℕ → ℕ
fresh_at frame node = 8 * frame.nodes + node

-- the stack of freed slots, each + 1
abbrev pub freed_at : Frame → ℕ → ℕ
freed_at frame place = 9 * frame.nodes + place

-- the tasks: compute n is n, keep n in its control slot N + n, store of memory w (states, then delays) 2N + w, output 2N + S + D
abbrev pub task_at : Frame → ℕ → ℕ
task_at frame position = 11 * frame.nodes + position

-- for each task and each of its two reads the position + 1 of the next task after it that reads the same node
abbrev pub link_at : Frame → ℕ → ℕ
link_at frame place = 13 * frame.nodes + frame.states + frame.delays + 1 + place

-- the first node of a source, if there is one: audio, network, 256 parameters, states, delays
abbrev pub home_at : Frame → ℕ → ℕ
home_at frame source = 17 * frame.nodes + 3 * frame.states + 3 * frame.delays + 3 + source

-- the regions lie in the table
pub record Wide (frame : Frame) (work : List ℕ) : Type 0 where
  pub some : 1 ≤ frame.nodes
  pub small : frame.nodes ≤ 65536
  pub states : frame.states ≤ 4096
  pub delays : frame.delays ≤ 4096
  pub wide : 18 * frame.nodes + 5 * frame.states + 5 * frame.delays + 262 ≤ length work
