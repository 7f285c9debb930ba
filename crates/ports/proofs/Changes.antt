-- What opening, growing and closing a stream change of a table: that stream alone. Assumes nothing.
use Rattle.std.specs.Prelude.{Option, None, Some}
use mathlib.Core.Path.{◌≡◌, refl, sym, ap, ◌∙◌}
use mathlib.Core.Bool.{Bool, true, false, ◌&&◌}
use mathlib.Core.List.{List, ◌++◌}
use Prim.Native.Nat.{ℕ, ◌+◌, ◌*◌, ◌≤◌, ◌<◌}
use native.Mathlib.Omega.{arith}
use lib.Dec.{eqb}
use lib.ListN.{length, get_or, take, set, length-set}
use lib.Seq.{paste, get_or-set_same, get_or-set_other}
use borrow.Author.Tests.{ne_eqb}
use Rattle.ump.proofs.First.{Side, under, over, side}
use Rattle.ports.specs.Streams.{is_of, Streams, stream_of, is_open, share_of, put}
use Rattle.ports.specs.Table.{has_key, slot_of, count, held_by, part_of, used_at, stored_at, stream_at}
use Rattle.ports.specs.Interleaved.{Distinct}
use Rattle.ports.proofs.Slots.{Same, alike, unlike, same, Apart, SameKeys, slot_found, slot_at, slot_before, slot_cong, apart-set, slot_other, slot_new, slot_gone, bit, keys_cong, keys_set}
use Rattle.ports.proofs.Parts.{length_stored_in, stored_else, stored_here, stored_cong}
use Rattle.ports.proofs.Looks.{look_found, look_none}
use Rattle.ports.proofs.Machine.{find_put_same, find_put_other, length_put, held_put}

-- a table of 32 words whose keys are distinct
pub record Sound (table : List ℕ) : Type 0 where
  pub whole : length table ≡ 32
  pub apart : Apart table

abbrev pub free : List ℕ → ℕ
free table = count (has_key table 0) 16

-- ---- a change of one stream

pub record Changed (key : ℕ) (table words table' words' : List ℕ) (new : Option (List ℕ)) : Type 0 where
  pub here : stream_at table' words' key ≡ new
  pub else : (other : ℕ) → (other ≡ 0 → ⊥) → (other ≡ key → ⊥) → stream_at table' words' other ≡ stream_at table words other
  pub holds : (port : ℕ) → held_by table' port + bit (is_of port key && is_open (stream_at table words key)) ≡ held_by table port + bit (is_of port key && is_open new)
  pub frees : free table' + bit (is_open new) ≡ free table + bit (is_open (stream_at table words key))
  pub sound : Sound table'
  pub size : length words' ≡ length words

-- the open streams that a table and its words show
pub record Shows (table words : List ℕ) (streams : Streams) : Type 0 where
  pub finds : (key : ℕ) → (key ≡ 0 → ⊥) → stream_of streams key ≡ stream_at table words key
  pub holds : (port : ℕ) → share_of streams port ≡ held_by table port
  pub all : length streams + free table ≡ 16

pub shows_put : {key : ℕ} {table words table' words' : List ℕ} {new : Option (List ℕ)} {streams : Streams} → (key ≡ 0 → ⊥) → Distinct streams
    → Shows table words streams → Changed key table words table' words' new → Shows table' words' (put streams key new)
shows_put {key} {table} {words} {table'} {words'} {new} {streams} n d s c =
    let f = s.finds key n in
    record {
      finds = λ other z. go other z (same other key);
      holds = λ port. omega (arith, rw f at (held_put port streams key new d), s.holds port, c.holds port);
      all = omega (arith, rw f at (length_put streams key new d), s.all, c.frees);
    }
  where
    go : (other : ℕ) → (other ≡ 0 → ⊥) → Same other key → stream_of (put streams key new) other ≡ stream_at table' words' other
    go other z (alike p e) = rw p (find_put_same streams key new ∙ sym c.here)
    go other z (unlike p e) = find_put_other streams key other new p ∙ s.finds other z ∙ sym (c.else other z p)

-- ---- what a slot says of a key: it has it, and the stream is open, or it is free, and the stream is not

pub data Fills (key : ℕ) : ℕ → Option (List ℕ) → Type 0 where
  by_key : {words : List ℕ} → Fills key key (Some words)
  by_none : Fills key 0 None

and-true : (b : Bool) → bit (b && true) ≡ bit b
and-true true = refl
and-true false = refl

and-false : (b : Bool) → bit (b && false) ≡ 0
and-false true = refl
and-false false = refl

of-port : (port key : ℕ) {x : ℕ} {stream : Option (List ℕ)} → Fills key x stream → bit (is_of port x) ≡ bit (is_of port key && is_open stream)
of-port port key by_key = sym (and-true (is_of port key))
of-port port key by_none = rw (ne_eqb 0 (port + 1) (λ e. omega arith), and-false (is_of port key))

is_free : (key : ℕ) {x : ℕ} {stream : Option (List ℕ)} → (key ≡ 0 → ⊥) → Fills key x stream → bit (eqb x 0) + bit (is_open stream) ≡ 1
is_free key n by_key = rw (ne_eqb key 0 n)
is_free key n by_none = refl

look_cong : (table table' words words' : List ℕ) (key : ℕ) → slot_of table' key ≡ slot_of table key
    → (slot_of table key < 16 → stored_at table' words' (slot_of table key) ≡ stored_at table words (slot_of table key)) → stream_at table' words' key ≡ stream_at table words key
look_cong table table' words words' key e h = go (side (slot_of table key) 16)
  where
    go : Side (slot_of table key) 16 → stream_at table' words' key ≡ stream_at table words key
    go (under l t) = look_found table' words' key (rw e l) ∙ ap Some (rw e (h l)) ∙ sym (look_found table words key l)
    go (over l t) = look_none table' words' key (rw e l) ∙ sym (look_none table words key l)

-- a store in the second half leaves the keys
module _ (table : List ℕ) (k u : ℕ) where
  keys_stay : SameKeys table (set table (16 + k) u)
  keys_stay j l = get_or-set_other table (16 + k) j u 0 (λ e. omega arith)

  sound_length : Sound table → Sound (set table (16 + k) u)
  sound_length sound = record {
    whole = length-set table (16 + k) u ∙ sound.whole;
    apart = λ i j hi hj. rw (keys_stay i hi, keys_stay j hj) (sound.apart i j hi hj);
  }

  holds_length : (port : ℕ) → held_by (set table (16 + k) u) port ≡ held_by table port
  unfolding held_by
  holds_length port = keys_cong (is_of port) table (set table (16 + k) u) keys_stay

  free_length : free (set table (16 + k) u) ≡ free table
  free_length = keys_cong (λ x. eqb x 0) table (set table (16 + k) u) keys_stay

module _ (key : ℕ) (table words : List ℕ) (not-Free : key ≡ 0 → ⊥) (sound : Sound table) where
  -- a key stored in a slot
  module _ (s x : ℕ) (h : s < 16) {new : Option (List ℕ)} (old : Fills key (get_or table s 0) (stream_at table words key)) (now : Fills key x new) where
    holds_set : (port : ℕ) → held_by (set table s x) port + bit (is_of port key && is_open (stream_at table words key)) ≡ held_by table port + bit (is_of port key && is_open new)
    unfolding held_by
    holds_set port = rw (← (of-port port key old), ← (of-port port key now)) (keys_set (is_of port) table s x sound.whole h)

    free_set : free (set table s x) + bit (is_open new) ≡ free table + bit (is_open (stream_at table words key))
    free_set = omega (arith, keys_set (λ y. eqb y 0) table s x sound.whole h, is_free key not-Free old, is_free key not-Free now)

    sound_set : ((j : ℕ) → j < 16 → (j ≡ s → ⊥) → get_or table j 0 ≡ x → x ≡ 0) → Sound (set table s x)
    sound_set single = record { whole = length-set table s x ∙ sound.whole; apart = apart-set table s x sound.whole h sound.apart single }

  module _ (h : slot_of table key < 16) where
    abbrev k : ℕ
    k = slot_of table key

    at : get_or table k 0 ≡ key
    at = slot_at table key h

    found : Fills key (get_or table k 0) (stream_at table words key)
    found = rw (at, look_found table words key h) by_key

    -- ---- closing: slot k, which has the key, is free

    pub closed_changes : Changed key table words (set table k 0) words None
    closed_changes = record {
      here = look_none (set table k 0) words key (rw gone (omega arith));
      else = λ other n d. look_cong table (set table k 0) words words other
          (slot_other table k 0 sound.whole h sound.apart (λ j l ne e. refl) other n n (λ e. d (e ∙ at)))
          (λ l. stored_cong table (set table k 0) words words (slot_of table other) refl (get_or-set_other table k (16 + slot_of table other) 0 0 (λ e. omega arith)) (λ u hu. refl));
      holds = holds_set k 0 h found by_none;
      frees = free_set k 0 h found by_none;
      sound = sound_set k 0 h found by_none (λ j l ne e. refl);
      size = refl;
    }
      where
        gone : slot_of (set table k 0) key ≡ 16
        gone = rw at at (slot_gone table k 0 sound.whole h sound.apart (λ e. not-Free (sym at ∙ e)) (λ e. not-Free (sym at ∙ e)))

    -- ---- growing: n words more in its part

    module _ (packet : List ℕ) (n : ℕ) (long : n ≤ length packet) (fits : used_at table (part_of words) k + n ≤ part_of words) where
      abbrev used : ℕ
      used = used_at table (part_of words) k

      abbrev table' : List ℕ
      table' = set table (16 + k) (used + n)

      abbrev words' : List ℕ
      words' = paste words (part_of words * k + used) packet n

      same_slot : (other : ℕ) → slot_of table' other ≡ slot_of table other
      same_slot other = slot_cong table table' other (keys_stay table k (used + n))

      more : stored_at table' words' k ≡ stored_at table words k ++ take n packet
      unfolding stored_at
      more = stored_here table table' words packet k used n h fits long (get_or-set_same table (16 + k) (used + n) 0 (omega (arith, sound.whole)))

      pub grown_changes : Changed key table words table' words' (Some (stored_at table words k ++ take n packet))
      grown_changes = record {
        here = look_found table' words' key (rw (same_slot key) h) ∙ ap Some (rw (same_slot key) more);
        else = λ other z d. look_cong table table' words words' other (same_slot other)
            (λ l. stored_else table table' words packet k used n h fits long (slot_of table other) l
            (λ e. d (sym (slot_at table other l) ∙ ap (λ i. get_or table i 0) e ∙ at))
            (get_or-set_other table (16 + k) (16 + slot_of table other) (used + n) 0 (λ e. d (sym (slot_at table other l) ∙ ap (λ i. get_or table i 0) (omega arith) ∙ at))));
        holds = λ port. rw (look_found table words key h, holds_length table k (used + n) port);
        frees = rw (look_found table words key h, free_length table k (used + n));
        sound = sound_length table k (used + n) sound;
        size = length_stored_in table table' words packet k used n h fits long;
      }

  -- ---- opening: slot s has the key already, or it is free and no slot has the key

  pub data Spot (s : ℕ) : Type 0 where
    again : get_or table s 0 ≡ key → Spot s
    fresh : get_or table s 0 ≡ 0 → 16 ≤ slot_of table key → Spot s

  module _ (s : ℕ) (hs : s < 16) where
    single : Spot s → (j : ℕ) → j < 16 → (j ≡ s → ⊥) → get_or table j 0 ≡ key → key ≡ 0
    single (again e) j l n f = absurd (n (sound.apart j s l hs (f ∙ sym e) (λ z. not-Free (sym f ∙ z))))
    single (fresh e g) j l n f = absurd (slot_before table key j (omega arith) f)

    not_there : Spot s → (other : ℕ) → (other ≡ 0 → ⊥) → (other ≡ key → ⊥) → other ≡ get_or table s 0 → ⊥
    not_there (again e) other z d f = d (f ∙ e)
    not_there (fresh e g) other z d f = z (f ∙ e)

    filled : Spot s → Fills key (get_or table s 0) (stream_at table words key)
    filled (again e) = let f : slot_of table key ≡ s = slot_found table key s sound.apart not-Free hs e in rw (e, look_found table words key (omega arith)) by_key
    filled (fresh e g) = rw (e, look_none table words key g) by_none

    module _ (spot : Spot s) (packet : List ℕ) (long : 4 ≤ length packet) (fits : 4 ≤ part_of words) where
      abbrev table₁ : List ℕ
      table₁ = set table s key

      abbrev table₂ : List ℕ
      table₂ = set table₁ (16 + s) 4

      abbrev words₂ : List ℕ
      words₂ = paste words (part_of words * s) packet 4

      begin : part_of words * s + 0 ≡ part_of words * s
      begin = omega arith

      slots : (other : ℕ) → slot_of table₂ other ≡ slot_of table₁ other
      slots other = slot_cong table₁ table₂ other (keys_stay table₁ s 4)

      mine : slot_of table₂ key ≡ s
      mine = slots key ∙ slot_new table s key sound.whole hs sound.apart (single spot) not-Free

      sound₁ : Sound table₁
      sound₁ = sound_set s key hs (filled spot) (by_key {words = packet}) (single spot)

      kept_here : stored_at table₂ words₂ s ≡ take 4 packet
      kept_here = rw begin at (stored_here table table₂ words packet s 0 4 hs fits long (get_or-set_same table₁ (16 + s) 4 0 (omega (arith, sound₁.whole))))

      kept_else : (k : ℕ) → k < 16 → (k ≡ s → ⊥) → stored_at table₂ words₂ k ≡ stored_at table words k
      kept_else k l n =
          rw begin at
          (stored_else table table₂ words packet s 0 4 hs fits long k l n
          (get_or-set_other table₁ (16 + s) (16 + k) 4 0 (λ e. n (omega arith)) ∙ get_or-set_other table s (16 + k) key 0 (λ e. omega arith)))

      pub begun_changes : Changed key table words table₂ words₂ (Some (take 4 packet))
      begun_changes = record {
        here = look_found table₂ words₂ key (rw mine hs) ∙ ap Some (rw mine kept_here);
        else = λ other z d. look_cong table table₂ words words₂ other
            (slots other ∙ slot_other table s key sound.whole hs sound.apart (single spot) other z d (not_there spot other z d))
            (λ l. kept_else (slot_of table other) l (λ e. not_there spot other z d (sym (slot_at table other l) ∙ ap (λ i. get_or table i 0) e)));
        holds = λ port. rw (holds_length table₁ s 4 port) (holds_set s key hs (filled spot) (by_key {words = take 4 packet}) port);
        frees = rw (free_length table₁ s 4) (free_set s key hs (filled spot) (by_key {words = take 4 packet}));
        sound = sound_length table₁ s 4 sound₁;
        size = rw begin at (length_stored_in table table₂ words packet s 0 4 hs fits long);
      }
