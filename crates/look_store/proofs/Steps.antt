-- One step of the walk to a byte, by the place where a dump stands. Assumes nothing.
use Rattle.std.specs.Prelude.{Some}
use mathlib.Core.Path.{◌≡◌, sym, ap, ◌∙◌}
use mathlib.Core.Bool.{true, false}
use mathlib.Core.List.{List}
use Prim.Native.Nat.{ℕ, suc, ◌+◌, ◌-◌, ◌≤◌}
use native.Mathlib.Omega.{arith}
use lib.ListN.{length, get_or}
use Rattle.refusal.specs.Answer.{gives, refused}
use Rattle.refusal.proofs.Laws.{never_refused}
use Rattle.ump.specs.Word.{pair_at}
use Rattle.ump.specs.Edits.{Patch}
use Rattle.store.specs.Store.{is_whole, is_dump, Dump, delta, data_in, patches_in, dumps_of, held}
use Rattle.store.specs.Places.{record_at, next_at, records_from, dump_at, DumpBegins, Ordered}
use Rattle.store.proofs.Checks.{sound_good}
use Rattle.chain.specs.Restore.{Payload, roomed, restored, unlimited}
use Rattle.chain.specs.Laying.{whole_at}
use Rattle.chain.proofs.Steps.{delta_dump, step_whole}
use Rattle.chain.proofs.Making.{OfBase, made_delta}
use Rattle.chain.proofs.Weights.{held_ordered, restored_size}
use Rattle.look_store.specs.Looking.{BaseByte, EditByte, Looks, Located}

-- a dump that is refused has no byte
pub located_refused : {store : List ℕ} {n left position value : ℕ} {number place : ℕ}
    → restored unlimited (dumps_of store) left n ≡ refused number place → Located store n left position value
located_refused r = record { is = λ payload e. never_refused (sym r ∙ e) }

-- a position is inside the store
pub looks_inside : {store places : List ℕ} {n left position : ℕ} → Looks store places n left position → position ≤ length store
looks_inside {store} {n = n} {left} l =
    omega (arith, l.inside, restored_size store (sound_good store l.good).formed left n l.payload l.is)

module _ (store : List ℕ) (n left : ℕ) (h : left ≡ 0 → ⊥) (at : ℕ) (d : is_dump (get_or store at 0) ≡ true)
    (q : Some (dump_at store at) ≡ held (dumps_of store) n) where
  pub located_whole : is_whole (get_or store at 0) ≡ true → {position value next : ℕ} → next ≡ next_at store at
      → value ≡ get_or (data_in (records_from store next)) position 0 → Located store n left position value
  unfolding roomed
  located_whole w {position} {value} {next} p v =
      record {
        is = λ payload e.
            let all : gives (whole_at store at) ≡ gives payload = step_whole unlimited store left n h at d q w ∙ e in
            let same : whole_at store at ≡ payload = cc in
            v
            ∙ ap (λ (k : ℕ). get_or (data_in (records_from store k)) position 0) p
            ∙ ap (λ (x : Payload). get_or x.bytes position 0) same;
      }

-- a delta stands at a place, and is the dump of this number
pub record DeltaHere (store : List ℕ) (n left at : ℕ) : Type 0 where
  pub some_left : left ≡ 0 → ⊥
  pub begins : DumpBegins store at
  pub is : Some (dump_at store at) ≡ held (dumps_of store) n
  pub other : is_whole (get_or store at 0) ≡ false

module _ {store : List ℕ} {n left at : ℕ} (d : DeltaHere store n left at) where
  abbrev base : ℕ
  base = pair_at store (at + 3)

  abbrev patches : List Patch
  patches = patches_in (records_from store (next_at store at))

  is_held : held (dumps_of store) n ≡ Some (delta (pair_at (record_at store at).body 0) base patches)
  is_held = sym d.is ∙ ap (λ (x : Dump). Some x) (delta_dump store at d.begins.1 d.other)

  pub delta_ordered : {places : List ℕ} {position : ℕ} → Looks store places n left position → Ordered 0 patches
  delta_ordered l = held_ordered store (sound_good store l.good).formed n is_held

  below : {p : Payload} → restored unlimited (dumps_of store) left n ≡ gives p
      → OfBase unlimited (restored unlimited (dumps_of store) (left - 1) base) patches p
  below e =
      let one : suc (left - 1) ≡ left = omega (arith, d.some_left) in
      made_delta unlimited (dumps_of store) (left - 1) n is_held (ap (λ (k : ℕ). restored unlimited (dumps_of store) k n) one ∙ e)

  pub located_edit : {position value : ℕ} → EditByte patches position value → Located store n left position value
  located_edit {position} f =
      record {
        is = λ payload e.
            let b = below e in
            sym (f.byte b.old.bytes b.good) ∙ ap (λ (x : Payload). get_or x.bytes position 0) b.is;
      }

  module _ {position index : ℕ} (f : BaseByte patches position index) {m : ℕ} (s : m ≡ base) where
    pub looks_below : {places : List ℕ} → Looks store places n left position → Looks store places m (left - 1) index
    looks_below l =
        let b = below l.is in
        let long = ap (λ (x : Payload). length x.bytes) b.is in
        record {
          noted = l.noted;
          good = l.good;
          payload = b.old;
          is = ap (restored unlimited (dumps_of store) (left - 1)) s ∙ b.is_base;
          inside = f.inside b.old.bytes b.good (omega (arith, long, l.inside));
        }

    pub located_below : {value : ℕ} → Located store m (left - 1) index value → Located store n left position value
    located_below g =
        record {
          is = λ payload e.
              let b = below e in
              g.is b.old (ap (restored unlimited (dumps_of store) (left - 1)) s ∙ b.is_base)
              ∙ sym (f.byte b.old.bytes b.good)
              ∙ ap (λ (x : Payload). get_or x.bytes position 0) b.is;
        }
