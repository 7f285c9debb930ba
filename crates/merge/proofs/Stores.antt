-- Four stores write a packet. Assumes nothing.
use mathlib.Core.Path.{◌≡◌, ap, ◌∙◌}
use mathlib.Core.List.{List}
use Prim.Native.Nat.{ℕ, zero, suc, ◌+◌, ◌*◌, ◌/◌, ◌%◌, ◌^◌, ◌≤◌, ◌<◌}
use native.Mathlib.Omega.{arith}
use lib.ListN.{length, get_or, set, length-set}
use lib.Seq.{get_or-set_same, get_or-set_other}
use Rattle.ump.specs.Packet.{sysex8}
use Rattle.flow.specs.Flowing.{number_word, Put}

module _ (ws : List ℕ) (p head high low : ℕ) (there : 4 * p + 4 ≤ length ws) (small : low < 2 ^ 64) where
  abbrev once : List ℕ
  once = set ws (4 * p) (head + high / 2 ^ 32)

  abbrev twice : List ℕ
  twice = set once (4 * p + 1) (high % 2 ^ 32)

  abbrev thrice : List ℕ
  thrice = set twice (4 * p + 2) (low / 2 ^ 32)

  abbrev new : List ℕ
  new = set thrice (4 * p + 3) (low % 2 ^ 32)

  other : (k : ℕ) → (k / 4 ≡ p → ⊥) → get_or new k 0 ≡ get_or ws k 0
  other k n =
      get_or-set_other thrice (4 * p + 3) k _ 0 (λ e. n (omega arith))
      ∙ get_or-set_other twice (4 * p + 2) k _ 0 (λ e. n (omega arith))
      ∙ get_or-set_other once (4 * p + 1) k _ 0 (λ e. n (omega arith))
      ∙ get_or-set_other ws (4 * p) k _ 0 (λ e. n (omega arith))

  here : (r : ℕ) → r < 4 → get_or new (4 * p + r) 0 ≡ number_word sysex8 head (high * 2 ^ 64 + low) r
  unfolding number_word
  here zero h =
      let z : 4 * p + 0 ≡ 4 * p = omega arith in
      ap (λ (k : ℕ). get_or new k 0) z
      ∙ get_or-set_other thrice (4 * p + 3) (4 * p) _ 0 (λ e. omega arith)
      ∙ get_or-set_other twice (4 * p + 2) (4 * p) _ 0 (λ e. omega arith)
      ∙ get_or-set_other once (4 * p + 1) (4 * p) _ 0 (λ e. omega arith)
      ∙ get_or-set_same ws (4 * p) _ 0 (omega arith)
      ∙ omega arith
  here (suc zero) h =
      get_or-set_other thrice (4 * p + 3) (4 * p + 1) _ 0 (λ e. omega arith)
      ∙ get_or-set_other twice (4 * p + 2) (4 * p + 1) _ 0 (λ e. omega arith)
      ∙ get_or-set_same once (4 * p + 1) _ 0 (simp length-set (omega arith))
      ∙ omega arith
  here (suc (suc zero)) h =
      get_or-set_other thrice (4 * p + 3) (4 * p + 2) _ 0 (λ e. omega arith)
      ∙ get_or-set_same twice (4 * p + 2) _ 0 (simp length-set (omega arith))
      ∙ omega arith
  here (suc (suc (suc zero))) h = get_or-set_same thrice (4 * p + 3) _ 0 (simp length-set (omega arith)) ∙ omega arith
  here (suc (suc (suc (suc r)))) h = absurd (omega arith)

  pub put_stored : Put sysex8 ws p head (high * 2 ^ 64 + low)
      (set (set (set (set ws (4 * p) (head + high / 2 ^ 32)) (4 * p + 1) (high % 2 ^ 32)) (4 * p + 2) (low / 2 ^ 32)) (4 * p + 3) (low % 2 ^ 32))
  put_stored = record {
    long = simp length-set;
    here = here;
    before = λ k l. other k (λ e. omega arith);
    behind = λ k l. other k (λ e. omega arith);
  }
