-- The Rust's `Expander`: each macro as the primitive nodes that it pushes, from position k on. The result is the last node. Definitions alone.
-- A constant stands by the f32 bits of the Rust's literal, which a comment repeats.
use Rattle.std.specs.Prelude.{List, [], ◌∷◌, ◌++◌, ℕ, zero, suc, ◌+◌, ◌*◌}
use Rattle.block.specs.Kinds.{recip_length, tanh_length}
use Rattle.expand.specs.Nodes.{Node, constant, add, sub, mul, min, max, sub_bits}

-- the loop of `recip_steps`: x is the input, e the estimate, two the constant 2.0
abbrev pub newton : ℕ → ℕ → ℕ → ℕ → ℕ → List Node
newton zero k x e two = []
newton (suc steps) k x e two = mul x e ∷ sub two k ∷ mul (k + 1) e ∷ newton steps (k + 3) x (k + 2) two

-- `recip_steps`: the magic number 0x7ef311c7, 2.0 and the first estimate at k + 2, then the Newton steps
unfoldable pub recip : ℕ → ℕ → ℕ → List Node
recip steps k x = constant 0x7ef311c7 ∷ constant 0x40000000 ∷ sub_bits k x ∷ newton steps (k + 3) x (k + 2) (k + 1)

-- `mul_add`: a + x * b, where a is a constant's bits
abbrev pub mul_add : ℕ → ℕ → ℕ → ℕ → List Node
mul_add k a x b = constant a ∷ mul x b ∷ add k (k + 1) ∷ []

-- `clamp` by -4.97 and 4.97, at k + 3; its square, at k + 4; 1.0, at k + 5
abbrev pub tanh_input : ℕ → ℕ → List Node
tanh_input k x =
    constant 0xc09f0a3d ∷ constant 0x409f0a3d ∷ max x k ∷ min (k + 2) (k + 1) ∷ mul (k + 3) (k + 3) ∷ constant 0x3f800000 ∷ []

-- x (135135 + x² (17325 + x² (378 + x²))), at k + 15
abbrev pub tanh_numerator : ℕ → List Node
tanh_numerator k =
    mul_add (k + 6) 0x43bd0000 (k + 4) (k + 5)
    ++ mul_add (k + 9) 0x46875a00 (k + 4) (k + 8)
    ++ mul_add (k + 12) 0x4803f7c0 (k + 4) (k + 11)
    ++ (mul (k + 3) (k + 14) ∷ [])

-- 135135 + x² (62370 + x² (3150 + x² 28)), at k + 25
abbrev pub tanh_denominator : ℕ → List Node
tanh_denominator k =
    (constant 0x41e00000 ∷ [])
    ++ mul_add (k + 17) 0x4544e000 (k + 4) (k + 16)
    ++ mul_add (k + 20) 0x4773a200 (k + 4) (k + 19)
    ++ mul_add (k + 23) 0x4803f7c0 (k + 4) (k + 22)

abbrev pub tanh_fraction : ℕ → ℕ → List Node
tanh_fraction k x = tanh_input k x ++ tanh_numerator k ++ tanh_denominator k

-- `tanh`, over the Newton steps of its inner reciprocal: numerator times inverse
unfoldable pub tanh : ℕ → ℕ → ℕ → List Node
tanh steps k x = tanh_fraction k x ++ recip steps (k + 26) (k + 25) ++ (mul (k + 15) (k + 25 + recip_length steps) ∷ [])

-- `sigmoid`: 0.5 + 0.5 tanh(x / 2)
unfoldable pub sigmoid : ℕ → ℕ → ℕ → List Node
sigmoid steps k x =
    (constant 0x3f000000 ∷ mul x k ∷ [])
    ++ tanh steps (k + 2) (k + 1)
    ++ (mul (k + 1 + tanh_length steps) k ∷ add k (k + 2 + tanh_length steps) ∷ [])

-- "Expands to `lhs * recip(rhs)`"
unfoldable pub divide : ℕ → ℕ → ℕ → ℕ → List Node
divide steps k lhs rhs = recip steps k rhs ++ (mul lhs (k + 2 + steps * 3) ∷ [])
