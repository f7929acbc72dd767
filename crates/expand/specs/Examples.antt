-- Each macro between an input and a neg, as the Rust's expander gives it, by computation. The words are in rows of records: code, first, second.
use Rattle.std.specs.Prelude.{◌≡◌, refl, [], ◌∷◌, ◌++◌}
use Rattle.tables.specs.Loops.{sum}
use Rattle.block.specs.Kinds.{kind_of, node_length, tanh_steps}
use Rattle.expand.specs.Nodes.{words_of}
use Rattle.expand.specs.Macros.{recip, tanh, sigmoid, divide}
use Rattle.expand.specs.Expansion.{expand_node, expand_to, map_node}

-- input, recip 0, neg 1
expand_recip : words_of (expand_to tanh_steps (0 ∷ 0 ∷ 0 ∷ 14 ∷ 0 ∷ 0 ∷ 12 ∷ 1 ∷ 0 ∷ []) 3)
    ≡ 0 ∷ 0 ∷ 0
    ∷ 1 ∷ 0x7ef311c7 ∷ 0 ∷ 1 ∷ 0x40000000 ∷ 0 ∷ 10 ∷ 1 ∷ 0
    ∷ 7 ∷ 0 ∷ 3 ∷ 6 ∷ 2 ∷ 4 ∷ 7 ∷ 5 ∷ 3
    ∷ 7 ∷ 0 ∷ 6 ∷ 6 ∷ 2 ∷ 7 ∷ 7 ∷ 8 ∷ 6
    ∷ 7 ∷ 0 ∷ 9 ∷ 6 ∷ 2 ∷ 10 ∷ 7 ∷ 11 ∷ 9
    ∷ 12 ∷ 12 ∷ 0 ∷ []
unfolding expand_to expand_node kind_of sum node_length recip
expand_recip = refl

-- input, constant 2.0, div 0 1, neg 2
expand_divide : words_of (expand_to tanh_steps (0 ∷ 0 ∷ 0 ∷ 1 ∷ 0x40000000 ∷ 0 ∷ 11 ∷ 0 ∷ 1 ∷ 12 ∷ 2 ∷ 0 ∷ []) 4)
    ≡ 0 ∷ 0 ∷ 0 ∷ 1 ∷ 0x40000000 ∷ 0
    ∷ 1 ∷ 0x7ef311c7 ∷ 0 ∷ 1 ∷ 0x40000000 ∷ 0 ∷ 10 ∷ 2 ∷ 1
    ∷ 7 ∷ 1 ∷ 4 ∷ 6 ∷ 3 ∷ 5 ∷ 7 ∷ 6 ∷ 4
    ∷ 7 ∷ 1 ∷ 7 ∷ 6 ∷ 3 ∷ 8 ∷ 7 ∷ 9 ∷ 7
    ∷ 7 ∷ 1 ∷ 10 ∷ 6 ∷ 3 ∷ 11 ∷ 7 ∷ 12 ∷ 10
    ∷ 7 ∷ 0 ∷ 13
    ∷ 12 ∷ 14 ∷ 0 ∷ []
unfolding expand_to expand_node kind_of sum node_length divide recip
expand_divide = refl

-- input, tanh 0, neg 1
expand_tanh : words_of (expand_to tanh_steps (0 ∷ 0 ∷ 0 ∷ 15 ∷ 0 ∷ 0 ∷ 12 ∷ 1 ∷ 0 ∷ []) 3)
    ≡ 0 ∷ 0 ∷ 0
    ∷ 1 ∷ 0xc09f0a3d ∷ 0 ∷ 1 ∷ 0x409f0a3d ∷ 0 ∷ 9 ∷ 0 ∷ 1 ∷ 8 ∷ 3 ∷ 2 ∷ 7 ∷ 4 ∷ 4 ∷ 1 ∷ 0x3f800000 ∷ 0
    ∷ 1 ∷ 0x43bd0000 ∷ 0 ∷ 7 ∷ 5 ∷ 6 ∷ 5 ∷ 7 ∷ 8 ∷ 1 ∷ 0x46875a00 ∷ 0 ∷ 7 ∷ 5 ∷ 9 ∷ 5 ∷ 10 ∷ 11
    ∷ 1 ∷ 0x4803f7c0 ∷ 0 ∷ 7 ∷ 5 ∷ 12 ∷ 5 ∷ 13 ∷ 14 ∷ 7 ∷ 4 ∷ 15
    ∷ 1 ∷ 0x41e00000 ∷ 0 ∷ 1 ∷ 0x4544e000 ∷ 0 ∷ 7 ∷ 5 ∷ 17 ∷ 5 ∷ 18 ∷ 19 ∷ 1 ∷ 0x4773a200 ∷ 0 ∷ 7 ∷ 5 ∷ 20 ∷ 5 ∷ 21 ∷ 22
    ∷ 1 ∷ 0x4803f7c0 ∷ 0 ∷ 7 ∷ 5 ∷ 23 ∷ 5 ∷ 24 ∷ 25
    ∷ 1 ∷ 0x7ef311c7 ∷ 0 ∷ 1 ∷ 0x40000000 ∷ 0 ∷ 10 ∷ 27 ∷ 26
    ∷ 7 ∷ 26 ∷ 29 ∷ 6 ∷ 28 ∷ 30 ∷ 7 ∷ 31 ∷ 29 ∷ 7 ∷ 26 ∷ 32 ∷ 6 ∷ 28 ∷ 33 ∷ 7 ∷ 34 ∷ 32
    ∷ 7 ∷ 16 ∷ 35
    ∷ 12 ∷ 36 ∷ 0 ∷ []
unfolding expand_to expand_node kind_of sum node_length tanh recip
expand_tanh = refl

-- input, sigmoid 0, neg 1: what a sigmoid has around its tanh, and where the neg finds it
expand_sigmoid : words_of (expand_to tanh_steps (0 ∷ 0 ∷ 0 ∷ 16 ∷ 0 ∷ 0 ∷ 12 ∷ 1 ∷ 0 ∷ []) 3)
    ≡ 0 ∷ 0 ∷ 0 ∷ 1 ∷ 0x3f000000 ∷ 0 ∷ 7 ∷ 0 ∷ 1
    ∷ (words_of (tanh tanh_steps 3 2) ++ (7 ∷ 38 ∷ 1 ∷ 5 ∷ 1 ∷ 39 ∷ 12 ∷ 40 ∷ 0 ∷ []))
unfolding expand_to expand_node kind_of sum node_length sigmoid tanh recip
expand_sigmoid = refl

-- "Lengths: recip 12, div 13, tanh 36, sigmoid 40": the last node of a macro behind one input
last_recip : map_node tanh_steps (0 ∷ 0 ∷ 0 ∷ 14 ∷ 0 ∷ 0 ∷ []) 1 ≡ 12
unfolding sum node_length kind_of
last_recip = refl

last_divide : map_node tanh_steps (0 ∷ 0 ∷ 0 ∷ 11 ∷ 0 ∷ 0 ∷ []) 1 ≡ 13
unfolding sum node_length kind_of
last_divide = refl

last_tanh : map_node tanh_steps (0 ∷ 0 ∷ 0 ∷ 15 ∷ 0 ∷ 0 ∷ []) 1 ≡ 36
unfolding sum node_length kind_of
last_tanh = refl

last_sigmoid : map_node tanh_steps (0 ∷ 0 ∷ 0 ∷ 16 ∷ 0 ∷ 0 ∷ []) 1 ≡ 40
unfolding sum node_length kind_of
last_sigmoid = refl
