-- The streams that a table and its words mean are shown by them, whatever they hold. Assumes nothing.
use Rattle.std.specs.Prelude.{None, Some}
use mathlib.Core.Path.{◌≡◌, refl, sym, ap, ◌∙◌}
use mathlib.Core.Bool.{Bool, true, false, cond}
use mathlib.Core.List.{List, [], ◌∷◌, ◌++◌, append-nil}
use Prim.Native.Nat.{ℕ, zero, suc, ◌+◌, ◌≤◌, ◌<◌}
use native.Mathlib.Omega.{arith}
use lib.ListN.{length, get_or, length-append}
use borrow.Author.Tests.{eq-eqb, ne_eqb}
use Rattle.ump.proofs.First.{Side, under, over, side}
use Rattle.ports.specs.Streams.{is_of, Stream, Streams, stream_of, own, share_of}
use Rattle.ports.specs.Table.{has_key, slot_of, count, held_by, stored_at, streams_below, streams_in, stream_at}
use Rattle.ports.specs.Interleaved.{Distinct}
use Rattle.ports.proofs.Slots.{Same, alike, unlike, same, slot_at, slot_before}
use Rattle.ports.proofs.Looks.{look_found, look_none}
use Rattle.ports.proofs.Machine.{some_none}
use Rattle.ports.proofs.Changes.{Sound, Shows}
use Rattle.ports.proofs.Simulation.{Good}

-- ---- streams behind others

find-append : (front back : Streams) (key : ℕ) → stream_of front key ≡ None → stream_of (front ++ back) key ≡ stream_of back key
find-append [] back key h = refl
find-append (s ∷ front) back key h = go (same s.key key) h (find-append front back key)
  where
    go : Same s.key key → stream_of (s ∷ front) key ≡ None → (stream_of front key ≡ None → stream_of (front ++ back) key ≡ stream_of back key) → stream_of ((s ∷ front) ++ back) key ≡ stream_of back key
    go (alike p e) f more = some_none (rw e at f)
    go (unlike p e) f more = rw e (more (rw e at f))

find_front : (front back : Streams) (key : ℕ) {words : List ℕ} → stream_of front key ≡ Some words → stream_of (front ++ back) key ≡ Some words
find_front [] back key h = some_none (sym h)
find_front (s ∷ front) back key h = go (same s.key key) h (find_front front back key)
  where
    go : {words : List ℕ} → Same s.key key → stream_of (s ∷ front) key ≡ Some words → (stream_of front key ≡ Some words → stream_of (front ++ back) key ≡ Some words)
        → stream_of ((s ∷ front) ++ back) key ≡ Some words
    go (alike p e) f more = rw e (rw e at f)
    go (unlike p e) f more = rw e (more (rw e at f))

own-append : (port : ℕ) (front back : Streams) → own port (front ++ back) ≡ own port front ++ own port back
own-append port [] back = refl
own-append port (s ∷ front) back = go (is_of port s.key) refl (own-append port front back)
  where
    go : (b : Bool) → is_of port s.key ≡ b → own port (front ++ back) ≡ own port front ++ own port back
        → own port ((s ∷ front) ++ back) ≡ own port (s ∷ front) ++ own port back
    go true e more = rw (e, more)
    go false e more = rw e more

distinct_append : (front : Streams) (s : Stream) → Distinct front → stream_of front s.key ≡ None → Distinct (front ++ (s ∷ []))
distinct_append [] s d h = (refl, tt)
distinct_append (t ∷ front) s d h = go (same t.key s.key) h (distinct_append front s d.1)
  where
    go : Same t.key s.key → stream_of (t ∷ front) s.key ≡ None → (stream_of front s.key ≡ None → Distinct (front ++ (s ∷ []))) → Distinct ((t ∷ front) ++ (s ∷ []))
    go (alike p e) f more = some_none (rw e at f)
    go (unlike p e) f more =
        (find-append front (s ∷ []) t.key d.0 ∙ rw (ne_eqb s.key t.key (λ q. p (sym q))), more (rw e at f))

module _ (table words : List ℕ) where
  abbrev stream : ℕ → Stream
  stream k = record { key = get_or table k 0; packets = stored_at table words k }

  -- ---- no slot below n has the key; the first that has it is slot k

  none_below : (key n : ℕ) → ((k : ℕ) → k < n → get_or table k 0 ≡ key → ⊥) → stream_of (streams_below table words n) key ≡ None
  unfolding streams_below
  none_below key zero h = refl
  none_below key (suc n) h = go (same (get_or table n 0) 0) (none_below key n (λ k l. h k (omega arith)))
    where
      go : Same (get_or table n 0) 0 → stream_of (streams_below table words n) key ≡ None
          → stream_of (streams_below table words n ++ cond (has_key table 0 n) [] (stream n ∷ [])) key ≡ None
      go (alike p e) more = rw e (find-append (streams_below table words n) [] key more)
      go (unlike p e) more = rw e (find-append (streams_below table words n) (stream n ∷ []) key more ∙ rw (ne_eqb (get_or table n 0) key (h n (omega arith))))

  first_below : (key n k : ℕ) → (key ≡ 0 → ⊥) → k < n → get_or table k 0 ≡ key → ((j : ℕ) → j < k → get_or table j 0 ≡ key → ⊥)
      → stream_of (streams_below table words n) key ≡ Some (stored_at table words k)
  unfolding streams_below
  first_below key zero k z h e b = absurd (omega arith)
  first_below key (suc n) k z h e b = go (same k n) (λ l. first_below key n k z l e b)
    where
      go : Same k n → (k < n → stream_of (streams_below table words n) key ≡ Some (stored_at table words k))
          → stream_of (streams_below table words n ++ cond (has_key table 0 n) [] (stream n ∷ [])) key ≡ Some (stored_at table words k)
      go (alike p t) more =
          let f : get_or table n 0 ≡ key = ap (λ i. get_or table i 0) (sym p) ∙ e in
          rw (ne_eqb (get_or table n 0) 0 (λ q. z (sym f ∙ q)))
          (find-append (streams_below table words n) (stream n ∷ []) key (none_below key n (λ j l. b j (omega arith)))
          ∙ rw (eq-eqb (get_or table n 0) key f, p))
      go (unlike p t) more = find_front (streams_below table words n) _ key (more (omega arith))

  finds : (key : ℕ) → (key ≡ 0 → ⊥) → stream_of (streams_in table words) key ≡ stream_at table words key
  finds key z = go (side (slot_of table key) 16)
    where
      go : Side (slot_of table key) 16 → stream_of (streams_in table words) key ≡ stream_at table words key
      go (under h e) = first_below key 16 (slot_of table key) z h (slot_at table key h) (λ j l. slot_before table key j l) ∙ sym (look_found table words key h)
      go (over h e) = none_below key 16 (λ j l. slot_before table key j (omega arith)) ∙ sym (look_none table words key h)

  -- ---- how many

  holds_below : (port n : ℕ) → share_of (streams_below table words n) port ≡ count (λ k. is_of port (get_or table k 0)) n
  unfolding streams_below count
  holds_below port zero = refl
  holds_below port (suc n) = go (same (get_or table n 0) 0) (is_of port (get_or table n 0)) refl (holds_below port n)
    where
      go : Same (get_or table n 0) 0 → (b : Bool) → is_of port (get_or table n 0) ≡ b → share_of (streams_below table words n) port ≡ count (λ k. is_of port (get_or table k 0)) n
          → share_of (streams_below table words n ++ cond (has_key table 0 n) [] (stream n ∷ [])) port ≡ count (λ k. is_of port (get_or table k 0)) (suc n)
      go (alike p e) b f more =
          let z : is_of port (get_or table n 0) ≡ false = rw p (ne_eqb 0 (port + 1) (λ q. omega arith)) in
          rw (e, append-nil, z) more
      go (unlike p e) true f more = rw (e, own-append port (streams_below table words n) (stream n ∷ []), f) (simp length-append (omega arith))
      go (unlike p e) false f more = rw (e, own-append port (streams_below table words n) (stream n ∷ []), f, append-nil) more

  all_below : (n : ℕ) → length (streams_below table words n) + count (has_key table 0) n ≡ n
  unfolding streams_below count
  all_below zero = refl
  all_below (suc n) = go (same (get_or table n 0) 0) (all_below n)
    where
      go : Same (get_or table n 0) 0 → length (streams_below table words n) + count (has_key table 0) n ≡ n
          → length (streams_below table words n ++ cond (has_key table 0 n) [] (stream n ∷ [])) + count (has_key table 0) (suc n) ≡ suc n
      go (alike p e) more = rw e (simp length-append (omega arith))
      go (unlike p e) more = rw e (simp length-append (omega arith))

  pub shown : Shows table words (streams_in table words)
  unfolding held_by
  shown = record { finds = finds; holds = λ port. holds_below port 16; all = all_below 16 }

  -- ---- distinct keys

  distinct_below : Sound table → (n : ℕ) → n ≤ 16 → Distinct (streams_below table words n)
  unfolding streams_below
  distinct_below sound zero h = tt
  distinct_below sound (suc n) h = go (same (get_or table n 0) 0) (distinct_below sound n (omega arith))
    where
      go : Same (get_or table n 0) 0 → Distinct (streams_below table words n) → Distinct (streams_below table words n ++ cond (has_key table 0 n) [] (stream n ∷ []))
      go (alike p e) more = rw e (rw append-nil more)
      go (unlike p e) more =
          rw e
          (distinct_append (streams_below table words n) (stream n) more
          (none_below (get_or table n 0) n (λ k l q. let z : k ≡ n = sound.apart k n (omega arith) (omega arith) q (λ w. p (sym q ∙ w)) in omega arith)))

  pub good_in : Sound table → Good table words (streams_in table words)
  good_in sound = record { shows = shown; sound = sound; distinct = distinct_below sound 16 (omega arith) }
