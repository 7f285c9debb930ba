-- What is promised of looking for a byte holds of any calls that promise the definitions. Assumes nothing.
use mathlib.Core.Path.{◌≡◌, refl, sym, ap, ◌∙◌}
use mathlib.Core.Logic.{◌↔◌}
use mathlib.Core.List.{List}
use Prim.Native.Nat.{ℕ, suc, ◌≤◌, ◌<◌}
use native.Mathlib.Omega.{arith}
use lib.ListN.{length, get_or}
use Rattle.refusal.specs.Answer.{Answer, gives, refused, Verdict, pass, ◌▷◌, map_answer}
use Rattle.refusal.proofs.Laws.{never_both}
use Rattle.ump.specs.Word.{Below}
use Rattle.ump.specs.Packet.{sysex8}
use Rattle.ump.specs.Setters.{nth_byte, get_byte}
use Rattle.ump.proofs.First.{Side, under, over, side}
use Rattle.store.specs.Store.{dumps_of, sound}
use Rattle.chain.specs.Restore.{Payload, exceeds, restored, unlimited, Description, described, describe}
use Rattle.chain.specs.Chained.{Restorer, Describer}
use Rattle.chain.proofs.Needs.{given_fits}
use Rattle.restore.proofs.Chains.{Accepted, accepted, Told, told}
use Rattle.restore.proofs.Splices.{accepted_fewest}
use Rattle.look.specs.Looked.{Reader}
use Rattle.look.proofs.Nth.{nth_past, nth_there, nth_named, read_held}
use Rattle.look_store.specs.Byte.{byte_found, byte_of_dump}
use Rattle.look_store.specs.Looked.{DumpLooker, GivesByte, Looked, PromisedLook}
use Rattle.look_store.proofs.Answering.{byte_is}

-- ---- restored

-- byte i of a dump that is restored
look_given : (store : List ℕ) (n i : ℕ) {p : Payload} → sound store ≡ pass
    → restored unlimited (dumps_of store) (suc (length (dumps_of store))) n ≡ gives p → byte_of_dump store n i ≡ nth_byte p.bytes i
look_given store n i s e = sym (byte_is store n i s) ∙ ap (λ (a : Answer Payload). byte_found a i) e

module _ {store : List ℕ} {n : ℕ} {words : List ℕ} {len : ℕ} {left : List ℕ} (a : Accepted store n words len left) (b : Below 256 store)
    (i : ℕ) where
  look-restored : byte_of_dump store n i ≡ nth_byte a.payload.bytes i
  look-restored =
      look_given store n i a.is_sound (given_fits (exceeds (length words)) (dumps_of store) (suc (length (dumps_of store))) n a.is).0

  read_restored : get_byte sysex8 left len i ≡ nth_byte a.payload.bytes i
  read_restored = read_held sysex8 (accepted_fewest a b).holds i

-- ---- described

look_refused : (store : List ℕ) (n i : ℕ) {number place : ℕ} → describe store n ≡ refused number place → byte_of_dump store n i ≡ refused number place
unfolding describe described byte_of_dump
look_refused store n i {number} {place} e = go (sound store) (restored unlimited (dumps_of store) (suc (length (dumps_of store))) n) _ e
  where
    go : (v : Verdict) (a : Answer Payload) (f : Payload → Description) → v ▷ map_answer f a ≡ refused number place
        → v ▷ byte_found a i ≡ refused number place
    go (refused k l) a f h = cc
    go (gives u) (refused k l) f h = cc
    go (gives u) (gives p) f h = never_both h

module _ {store : List ℕ} {n : ℕ} {d : Description} (t : Told store n d) (i : ℕ) where
  look_inside : i < d.size → GivesByte (byte_of_dump store n i)
  look_inside h =
      record {
        value = get_or t.payload.bytes i 0;
        is = look_given store n i t.passes t.is ∙ sym (nth_there t.payload.bytes i (omega (arith, h, t.size)));
      }

  look_past : d.size ≤ i → byte_of_dump store n i ≡ refused 13 0
  look_past h = look_given store n i t.passes t.is ∙ sym (nth_past t.payload.bytes i (omega (arith, h, t.size)))

  look_exact : (answer : Answer ℕ) → answer ≡ byte_of_dump store n i
      → (GivesByte answer ↔ (i < d.size)) × (d.size ≤ i → answer ≡ refused 13 0)
  look_exact answer e = ((λ g. there g (side i d.size), λ h. let g = look_inside h in record { value = g.value; is = e ∙ g.is }), λ h. e ∙ look_past h)
    where
      there : GivesByte answer → Side i d.size → i < d.size
      there g (under h s) = h
      there g (over h s) = never_both (sym g.is ∙ e ∙ look_past h)

  -- no refusal but Range
  look_range : {number place : ℕ} → (number ≡ 13 → ⊥) → byte_of_dump store n i ≡ refused number place → ⊥
  look_range {number} {place} h e = go (side i d.size)
    where
      go : Side i d.size → ⊥
      go (under l s) = never_both (sym (look_inside l).is ∙ e)
      go (over l s) = let same : refused 13 0 ≡ refused number place = sym (look_past l) ∙ e in h cc

refused_exact : (store : List ℕ) (n i : ℕ) (then : Answer Description) {answer : Answer ℕ} → then ≡ describe store n
    → answer ≡ byte_of_dump store n i → {number place : ℕ} → (number ≡ 13 → ⊥)
    → (answer ≡ refused number place) ↔ (then ≡ refused number place)
refused_exact store n i (refused k l) e f {number} {place} h = (
  λ g. let same : ◌≡◌ {A = Answer ℕ} (refused k l) (refused number place) = sym (look_refused store n i (sym e)) ∙ sym f ∙ g in cc,
  λ g. f ∙ look_refused store n i (sym e ∙ g),
)
refused_exact store n i (gives d) e f h = (
  λ g. absurd (look_range (told store n d (sym e)) i h (sym f ∙ g)),
  λ g. never_both g,
)

-- ---- of any calls that promise the definitions

module _ {Restores : Restorer} {Describes : Describer} {Reads : Reader} {LooksAt : DumpLooker}
    (promised : PromisedLook Restores Describes Reads LooksAt) where
  pub looked : Looked Restores Describes Reads LooksAt
  looked =
      record {
        answers = λ store n i. record { answer = byte_of_dump store n i; left = tt; call = promised.can_look refl };
        readable = λ {store} {n} {words} {len} {left} c b i.
            let a = accepted store n words (promised.dumps.restores c) in
            record {
              answer = nth_byte a.payload.bytes i;
              left = tt;
              call = promised.can_read (read_restored a b i) (nth_named a.payload.bytes i);
            };
        as_restored = λ {store} {n} {words} c b {i} l r.
            let a = accepted store n words (promised.dumps.restores c) in
            promised.looks l ∙ look-restored a b i ∙ sym (read_restored a b i) ∙ sym (promised.reads r);
        as_refused = λ {store} {n} c {i} l. promised.looks l ∙ look_refused store n i (sym (promised.dumps.describes c));
        as_described = λ {store} {n} {d} c {i} l. look_exact (told store n d (sym (promised.dumps.describes c))) i _ (promised.looks l);
        refused_exactly = λ {store} {n} {then} c {i} l h. refused_exact store n i then (promised.dumps.describes c) (promised.looks l) h;
      }
