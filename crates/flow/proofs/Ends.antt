-- Heads made anew: packets that flowed with one head become the message. Assumes nothing.
use mathlib.Core.Path.{◌≡◌, refl, sym, ap, ◌∙◌}
use mathlib.Core.Bool.{Bool, true, false, cond}
use mathlib.Core.Logic.{◌≢◌}
use mathlib.Core.List.{List, ◌++◌}
use Prim.Native.Nat.{ℕ, suc, ◌+◌, ◌-◌, ◌*◌, ◌/◌, ◌%◌, ◌^◌, ◌≤◌, ◌<◌, min}
use native.Mathlib.Nat.{zero-add, mul_comm, mul-zero, mul-suc, mul-lt-mul_of_pos_left, div-lt_iff_lt-mul, div-add-mod, mod-eq_of_lt, add-mod, mul-mod_left, mul-mod_right, mul-div_right}
use native.Mathlib.Decide.{ℕ_discrete}
use native.Mathlib.Omega.{arith}
use lib.Dec.{eqb}
use lib.ListN.{length, get_or, set, drop, length-append, length-drop, length-set, get_or-append}
use lib.Seq.{get_or-set_same, get_or-set_other, get_or-drop, get_or-append-add, ext_get_or}
use borrow.Author.Tests.{ne_eqb}
use Rattle.ump.specs.Word.{Below}
use Rattle.ump.specs.Packet.{Shape}
use Rattle.ump.specs.Packing.{packets_for, pack}
use Rattle.ump.proofs.Words.{below_drop}
use Rattle.ump.proofs.Sizes.{words_pos, packets_pos, packets_fewest, status_inner}
use Rattle.ump.proofs.Packing.{length_pack}
use Rattle.ump.proofs.First.{Side, under, over, side}
use Rattle.flow.specs.Digits.{val}
use Rattle.flow.specs.Flowing.{firsts, number_word, flow_word, Poured}
use Rattle.flow.specs.Heads.{base_for, head_for, inner_head}
use Rattle.flow.proofs.Digits.{val-fits}
use Rattle.flow.proofs.Puts.{number_first}
use Rattle.flow.proofs.Octets.{head_number, pack_word}

-- ---- packets with heads of their own

-- the words of the first e packets, each with its head
pub record Headed (shape : Shape) (bytes : List ℕ) (e : ℕ) (heads : ℕ → ℕ) (us : List ℕ) : Type 0 where
  pub done : (k : ℕ) → k < shape.words * e → get_or us k 0 ≡ flow_word shape (heads (k / shape.words)) bytes k

pub poured_headed : {shape : Shape} {w bytes us : List ℕ} {head e : ℕ} → Poured shape w bytes head e us → Headed shape bytes e (λ p. head) us
poured_headed p = record { done = p.done }

module _ (shape : Shape) (bytes : List ℕ) where
  -- a first word: the head, and the first bytes
  pub first-word : (head p : ℕ) → Below 256 bytes → flow_word shape head bytes (shape.words * p) ≡ head + val (firsts shape) (drop (shape.room * p) bytes)
  unfolding flow_word
  first-word head p below =
      rw (mul-div_right p (words_pos shape), mul-mod_right shape.words p)
      (number_first shape head _ (drop (shape.room * p) bytes) (below_drop 256 (shape.room * p) bytes below) refl)

  -- another word has nothing of the head
  pub other_word : (head head' k : ℕ) → k % shape.words ≢ 0 → flow_word shape head bytes k ≡ flow_word shape head' bytes k
  unfolding flow_word number_word
  other_word head head' k z = rw (ne_eqb (k % shape.words) 0 z)

-- a head made anew: the others stand
module _ {shape : Shape} {bytes us : List ℕ} {e : ℕ} {heads : ℕ → ℕ} (h : Headed shape bytes e heads us) (below : Below 256 bytes) (fits : shape.words * e ≤ length us)
    (p : ℕ) (inside : p < e) (zeros : heads p % 2 ^ (8 * firsts shape) ≡ 0) (heads' : ℕ → ℕ) (others : (q : ℕ) → q < e → q ≢ p → heads' q ≡ heads q) where
  abbrev at : ℕ
  at = shape.words * p

  at_inside : at < shape.words * e
  at_inside = mul-lt-mul_of_pos_left inside (words_pos shape)

  bytes_there : get_or us at 0 % 2 ^ (8 * firsts shape) ≡ val (firsts shape) (drop (shape.room * p) bytes)
  bytes_there =
      let v = val (firsts shape) (drop (shape.room * p) bytes) in
      let small : v < 2 ^ (8 * firsts shape) = val-fits (firsts shape) _ (below_drop 256 (shape.room * p) bytes below) in
      rw (h.done at at_inside, mul-div_right p (words_pos shape), first-word shape bytes (heads p) p below, add-mod, zeros, zero-add, mod-eq_of_lt small) (mod-eq_of_lt small)

  pub head_put : Headed shape bytes e heads' (set us (shape.words * p) (heads' p + get_or us (shape.words * p) 0 % 2 ^ (8 * firsts shape)))
  head_put = record { done = λ k l. go k l (ℕ_discrete k at) (ℕ_discrete (k / shape.words) p) }
    where
      new : List ℕ
      new = set us at (heads' p + get_or us at 0 % 2 ^ (8 * firsts shape))

      go : (k : ℕ) → k < shape.words * e → Dec (k ≡ at) → Dec (k / shape.words ≡ p) → get_or new k 0 ≡ flow_word shape (heads' (k / shape.words)) bytes k
      go k l (yes z) _ =
          rw (z, mul-div_right p (words_pos shape), bytes_there) (get_or-set_same us at _ 0 (omega (arith, at_inside)) ∙ sym (first-word shape bytes (heads' p) p below))
      go k l (no z) (yes i) =
          get_or-set_other us at k _ 0 z ∙ h.done k l ∙ other_word shape bytes _ _ k (λ r. z (omega (arith, div-add-mod k shape.words, ap (λ (x : ℕ). shape.words * x) i)))
      go k l (no z) (no i) =
          let q : k / shape.words < e = (div-lt_iff_lt-mul (words_pos shape)).1 (rw mul_comm at l) in
          get_or-set_other us at k _ 0 z ∙ h.done k l ∙ rw (others (k / shape.words) q i)

-- ---- the message

-- the head of a packet between the first and the last
pub inner_is : (shape : Shape) (base n p : ℕ) → p ≢ 0 → suc p < packets_for shape n → head_for shape base n p ≡ inner_head shape base
unfolding head_for
inner_is shape base n p a l =
    let full : min shape.room (n - shape.room * p) ≡ shape.room = omega (arith, packets_fewest shape n p l, mul-suc shape.room p) in
    rw (status_inner (packets_for shape n) p (λ i. omega arith) a (λ i. omega arith), full)

module _ (shape : Shape) (w bytes : List ℕ) (g : ℕ) (id : List ℕ) (base e : ℕ) (below : Below 256 bytes) (named : length id ≡ shape.ids)
    (shared : base ≡ base_for shape g id) (ends : e ≡ packets_for shape (length bytes)) (fits : shape.words * e ≤ length w) where
  abbrev head : ℕ → ℕ
  head = head_for shape base (length bytes)

  abbrev behind : List ℕ
  behind = drop (shape.words * e) w

  abbrev message : List ℕ
  message = pack shape g id bytes

  long : length message ≡ shape.words * e
  long = rw ends (length_pack shape g id bytes named)

  -- packets with the heads of the message are the message
  pub headed_is : (us : List ℕ) → Headed shape bytes e (head_for shape base (length bytes)) us → length us ≡ length w
      → ((k : ℕ) → shape.words * e ≤ k → get_or us k 0 ≡ get_or w k 0) → us ≡ pack shape g id bytes ++ drop (shape.words * e) w
  headed_is us h same rest =
      ext_get_or 0 us (message ++ behind) (simp (length-append, length-drop) (omega (arith, long))) (λ k l. at k (side k (shape.words * e)))
    where
      at : (k : ℕ) → Side k (shape.words * e) → get_or us k 0 ≡ get_or (message ++ behind) k 0
      at k (under l _) =
          h.done k l
          ∙ rw shared (sym (pack_word shape g id named bytes below k (rw ends at l)))
          ∙ sym (get_or-append message behind 0 k (omega (arith, long)))
      at k (over l _) =
          let i = k - shape.words * e in
          let z : length message + i ≡ k = omega (arith, long) in
          let z' : shape.words * e + i ≡ k = omega arith in
          rest k l
          ∙ ap (λ (x : ℕ). get_or w x 0) (sym z')
          ∙ sym (get_or-drop (shape.words * e) w i 0)
          ∙ sym (get_or-append-add message behind i 0)
          ∙ ap (λ (x : ℕ). get_or (message ++ behind) x 0) z

  -- the first head made anew, and the last
  module _ (us : List ℕ) (p : Poured shape w bytes (inner_head shape base) e us) where
    abbrev once : List ℕ
    once = set us 0 (head 0 + get_or us 0 0 % 2 ^ (8 * firsts shape))

    abbrev last : ℕ
    last = shape.words * (e - 1)

    abbrev heads : ℕ → ℕ
    heads q = cond (eqb q 0) (head 0) (inner_head shape base)

    some : 0 < e
    some = rw ends (packets_pos shape (length bytes))

    last_inside : last < shape.words * e
    last_inside = mul-lt-mul_of_pos_left (omega (arith, some)) (words_pos shape)

    zeros : (b : ℕ) → (base + b * 2 ^ 16) % 2 ^ (8 * firsts shape) ≡ 0
    zeros b = rw (shared, head_number shape g id named b) (mul-mod_left _ _)

    last_zeros : heads (e - 1) % 2 ^ (8 * firsts shape) ≡ 0
    unfolding head_for
    last_zeros = go (eqb (e - 1) 0)
      where
        go : (b : Bool) → cond b (head 0) (inner_head shape base) % 2 ^ (8 * firsts shape) ≡ 0
        go true = zeros _
        go false = zeros _

    first_made : Headed shape bytes e heads once
    first_made = rw mul-zero at (head_put (poured_headed p) below (omega (arith, p.long)) 0 some (zeros _) heads (λ q l z. rw (ne_eqb q 0 z)))

    pub ends_are : set once last (head (e - 1) + get_or once last 0 % 2 ^ (8 * firsts shape)) ≡ pack shape g id bytes ++ drop (shape.words * e) w
    ends_are =
        headed_is _ (head_put first_made below (simp length-set (omega (arith, p.long))) (e - 1) (omega (arith, some)) last_zeros head (λ q l z. agree q l z (ℕ_discrete q 0)))
        (simp length-set p.long) (λ k l. get_or-set_other once last k _ 0 (λ z. omega (arith, last_inside)) ∙ get_or-set_other us 0 k _ 0 (λ z. omega (arith, last_inside)) ∙ p.rest k l)
      where
        agree : (q : ℕ) → q < e → q ≢ e - 1 → Dec (q ≡ 0) → head q ≡ heads q
        agree q l z (yes a) = rw a
        agree q l z (no a) = rw (ne_eqb q 0 a) (inner_is shape base (length bytes) q a (omega arith))
