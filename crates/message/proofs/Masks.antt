-- A first word compared at once, by a mask: it is in order exactly if it is not at fault. Assumes nothing.
use mathlib.Core.Path.{◌≡◌, refl, sym, ap, ap₂, ◌∙◌}
use mathlib.Core.Bool.{Bool, true, false, not, ◌||◌, and-true}
use mathlib.Core.List.{[], ◌∷◌}
use Prim.Native.Nat.{ℕ, zero, suc, ◌+◌, ◌*◌, ◌/◌, ◌%◌, ◌^◌, ◌≤◌, ◌<◌}
use native.Mathlib.Nat.{div-add-mod', mod-lt}
use native.Mathlib.Omega.{arith}
use lib.Bits.{bit_and, and_block, and_high}
use lib.Dec.{eqb, ltb, lit<}
use lib.ListN.{take}
use lib.Pow.{pow_pos}
use borrow.Author.Tests.{eq-eqb, ne_eqb, eqb-true, not-false, ltb-false, le-ltb}
use Rattle.ump.specs.Word.{nibble, octet}
use Rattle.ump.specs.Packet.{Shape}
use Rattle.ump.specs.Packing.{status_for}
use Rattle.ump.specs.Check.{same}
use Rattle.ump.proofs.Sizes.{status_small}
use Rattle.ump.proofs.Checks.{or_left, or_right}
use Rattle.layout.specs.Format.{Numbers}
use Rattle.message.specs.Scan.{mask_of, faulty}

-- the stream id in a first word, where there is one: at most one octet
pub one_id_at_most : {s : Shape} {type words ids room bias : ℕ} → Numbers s type words ids room bias → s.ids ≤ 1
one_id_at_most n = rw n.ids_are at n.few_ids

abbrev pub id_value : ℕ → ℕ → ℕ
id_value zero x = 0
id_value (suc ids) x = x / 2 ^ 8 % 2 ^ 8

pub same_id : (ids : ℕ) → ids ≤ 1 → (x y : ℕ)
    → same (take ids (octet x 2 ∷ octet x 3 ∷ [])) (take ids (octet y 2 ∷ octet y 3 ∷ [])) ≡ eqb (id_value ids x) (id_value ids y)
same_id zero h x y = refl
same_id (suc zero) h x y = and-true (eqb (octet x 2) (octet y 2))
same_id (suc (suc ids)) h x y = absurd (omega arith)

-- the first word x of packet p of n is in order, where head is that of packet 0
pub record InStep (s : Shape) (head n p x : ℕ) : Type 0 where
  pub of_type : nibble x 0 ≡ s.type
  pub in_step : nibble x 2 ≡ status_for n p
  pub enough : s.bias ≤ nibble x 3
  pub fitting : nibble x 3 ≤ s.room + s.bias
  pub one_group : nibble x 1 ≡ nibble head 1
  pub one_id : id_value s.ids x ≡ id_value s.ids head

upper : (x : ℕ) → x < 2 ^ 32 → x / 2 ^ 16 / 2 ^ 4 % 2 ^ 12 * 2 ^ 4 * 2 ^ 16 ≡ x / 2 ^ 20 * 2 ^ 20
upper x h = omega arith

lower : (x : ℕ) → x % 2 ^ 16 / 2 ^ 8 % 2 ^ 8 ≡ x / 2 ^ 8 % 2 ^ 8
lower x = omega arith

pub masked : (ids : ℕ) → ids ≤ 1 → (x : ℕ) → x < 2 ^ 32
    → bit_and x (0xFFF00000 + ids * 0xFF00) ≡ x / 2 ^ 20 * 2 ^ 20 + id_value ids x * 2 ^ 8
masked zero l x h = and_high x 12 20 ∙ omega arith
masked (suc zero) l x h =
    ap (λ (y : ℕ). bit_and y 0xFFF0FF00) (sym (div-add-mod' x (2 ^ 16)))
    ∙ and_block 16 (x / 2 ^ 16) 0xFFF0 (x % 2 ^ 16) 0xFF00 (mod-lt x (pow_pos 16)) (lit< tt)
    ∙ ap₂ (λ (a b : ℕ). a * 2 ^ 16 + b) (and_high (x / 2 ^ 16) 12 4) (and_high (x % 2 ^ 16) 8 8)
    ∙ ap₂ (λ (a b : ℕ). a + b * 2 ^ 8) (upper x h) (lower x)
masked (suc (suc ids)) l x h = absurd (omega arith)

pub id_small : (ids x : ℕ) → id_value ids x < 256
id_small zero x = omega arith
id_small (suc ids) x = omega arith

-- the number that is wanted of a first word: type and group, and the stream id; the status is added to it
abbrev pub base_for : Shape → ℕ → ℕ
base_for s head = s.type * 2 ^ 28 + nibble head 1 * 2 ^ 24 + bit_and head (mask_of s) % 2 ^ 16

low : (a b : ℕ) → b < 256 → (a * 2 ^ 20 + b * 2 ^ 8) % 2 ^ 16 ≡ b * 2 ^ 8
low a b l = omega arith

-- the stream id as the last walk compares it
module _ (s : Shape) (d : s.ids ≤ 1) (x y : ℕ) (hx : x < 2 ^ 32) (hy : y < 2 ^ 32) where
  id_masked : (z : ℕ) → z < 2 ^ 32 → bit_and z (mask_of s) % 2 ^ 16 ≡ id_value s.ids z * 2 ^ 8
  id_masked z h = rw (masked s.ids d z h) (low (z / 2 ^ 20) (id_value s.ids z) (id_small s.ids z))

  pub ids_masked : eqb (bit_and x (mask_of s) % 2 ^ 16) (bit_and y (mask_of s) % 2 ^ 16) ≡ eqb (id_value s.ids x) (id_value s.ids y)
  ids_masked = rw (id_masked x hx, id_masked y hy) (go (eqb (id_value s.ids x) (id_value s.ids y)) refl)
    where
      go : (b : Bool) → eqb (id_value s.ids x) (id_value s.ids y) ≡ b → eqb (id_value s.ids x * 2 ^ 8) (id_value s.ids y * 2 ^ 8) ≡ b
      go true e = let k = eqb-true _ _ e in eq-eqb _ _ (omega arith)
      go false e = ne_eqb _ _ (λ z. let k : id_value s.ids x ≡ id_value s.ids y = omega arith in let t = eq-eqb _ _ k in cc)

-- the fields of what is compared
apart : (x y type group status id : ℕ) → y < 256 → id < 256
    → x * 2 ^ 20 + y * 2 ^ 8 ≡ type * 2 ^ 28 + group * 2 ^ 24 + id * 2 ^ 8 + status * 2 ^ 20 → (x ≡ type * 256 + group * 16 + status) × (y ≡ id)
apart x y type group status id hy hi e =
    let q : x ≡ (x * 2 ^ 20 + y * 2 ^ 8) / 2 ^ 20 = omega arith in
    let r : (type * 2 ^ 28 + group * 2 ^ 24 + id * 2 ^ 8 + status * 2 ^ 20) / 2 ^ 20 ≡ type * 256 + group * 16 + status = omega arith in
    let z : x ≡ type * 256 + group * 16 + status = q ∙ ap (λ (a : ℕ). a / 2 ^ 20) e ∙ r in
    (z, omega arith)

upper_fields : (x type group status : ℕ) → type < 16 → group < 16 → status < 16 → x / 2 ^ 20 ≡ type * 256 + group * 16 + status
    → (x / 2 ^ 28 % 16 ≡ type) × (x / 2 ^ 24 % 16 ≡ group) × (x / 2 ^ 20 % 16 ≡ status)
upper_fields x type group status a b c e = (omega arith, omega arith, omega arith)

fields_upper : (x type group status : ℕ) → x < 2 ^ 32 → x / 2 ^ 28 % 16 ≡ type → x / 2 ^ 24 % 16 ≡ group → x / 2 ^ 20 % 16 ≡ status
    → x / 2 ^ 20 ≡ type * 256 + group * 16 + status
fields_upper x type group status h a b c = omega arith

-- a word that is not at fault
pub not_faulty : (s : Shape) (wanted x : ℕ) → faulty s wanted x ≡ false
    → (bit_and x (mask_of s) ≡ wanted) × (s.bias ≤ nibble x 3) × (nibble x 3 ≤ s.room + s.bias)
not_faulty s wanted x f =
    let a : Bool = not (eqb (bit_and x (mask_of s)) wanted) in
    let b : Bool = ltb (nibble x 3) s.bias in
    let c : Bool = ltb (s.room + s.bias) (nibble x 3) in
    let k = or_left (a || b) c f in
    (eqb-true _ _ (not-false _ (or_left a b k)), ltb-false _ _ (or_right a b k), ltb-false _ _ (or_right (a || b) c f))

module _ (s : Shape) (d : s.ids ≤ 1) (head n p x : ℕ) (hh : head < 2 ^ 32) (hx : x < 2 ^ 32) where
  abbrev wanted : ℕ
  wanted = base_for s head + status_for n p * 2 ^ 20

  wanted_is : wanted ≡ s.type * 2 ^ 28 + nibble head 1 * 2 ^ 24 + id_value s.ids head * 2 ^ 8 + status_for n p * 2 ^ 20
  wanted_is = rw (masked s.ids d head hh, low (head / 2 ^ 20) (id_value s.ids head) (id_small s.ids head))

  pub clear_in_step : faulty s wanted x ≡ false → InStep s head n p x
  clear_in_step e =
      let f = not_faulty s wanted x e in
      let i = apart (x / 2 ^ 20) (id_value s.ids x) s.type (nibble head 1) (status_for n p) (id_value s.ids head) (id_small s.ids x) (id_small s.ids head) (sym (masked s.ids d x hx) ∙ f.0 ∙ wanted_is) in
      let u = upper_fields x s.type (nibble head 1) (status_for n p) s.type_fits (omega arith) (omega (arith, status_small n p)) i.0 in
      record {
        of_type = u.0;
        in_step = u.2;
        enough = f.1;
        fitting = f.2;
        one_group = u.1;
        one_id = i.1;
      }

  pub in_step_clear : InStep s head n p x → faulty s wanted x ≡ false
  in_step_clear k =
      let u = fields_upper x s.type (nibble head 1) (status_for n p) hx k.of_type k.one_group k.in_step in
      let w : bit_and x (mask_of s) ≡ wanted = masked s.ids d x hx ∙ rw (u, k.one_id, wanted_is) (omega arith) in
      rw (eq-eqb _ _ w, le-ltb _ _ k.enough, le-ltb _ _ k.fitting)
