-- Wrong outcomes that the promise shuts out. Assumes nothing.
use Rattle.std.specs.Prelude.{Result, Ok, Err}
use Rattle.refusal.specs.declared.Fault.{Fault}
use mathlib.Core.Path.{◌≡◌}
use mathlib.Core.List.{List, [], ◌∷◌}
use Prim.Native.Nat.{ℕ}
use contract.Lifetimes.{Lfts}
use denote.Triple.Clauses.{AtExit}
use lib.ListN.{get_or, replicate}
use borrow.Fn.Kinds.{Dens, res_t, ended_of}
use Rattle.refusal.specs.Answer.{Answer}
use Rattle.refusal.specs.declared.Refusal.{Refusal}
use Rattle.refusal.specs.declared.Refusal.TheVariants.{Room, Frame, Byte}
use Rattle.refusal.proofs.Tight.{differ, told}
use Rattle.ump.specs.Word.{words_of}
use Rattle.ump.specs.Packet.{joined}
use Rattle.ump.specs.Packing.{status_for, frame, packs_at, packs, packets_for, pack}
use Rattle.ump.specs.Check.{first_where}
use Rattle.ump.specs.Stream.{to_sysex7}
use Rattle.stream.proofs.to_sysex7.Kinds as kinds
use Rattle.stream.proofs.to_sysex7.Reads as stream

-- the promise allows no such answer and words after, of such bytes, group and words before
abbrev ShutOut : List ℕ → ℕ → List ℕ → (Result ℕ Fault) → List ℕ → Type 0
ShutOut bytes group before answer after =
    (κs : Lfts 2) (a : Dens κs kinds.ps) (x : (res_t kinds.r κs).Denot) (s : AtExit (ended_of 2 kinds.ps kinds.r) κs)
    → a.0.now ≡ bytes → a.1.0 ≡ group → a.1.1.0.now ≡ before → x ≡ answer → s.1.1.0.now ≡ after → stream.Post κs a x s → ⊥

abbrev refused_at : Refusal → ℕ → (Result ℕ Fault)
refused_at refusal place = Err (record { refusal = refusal; place = place })

abbrev stream12 : List ℕ
stream12 = 0xF0 ∷ 1 ∷ 2 ∷ 3 ∷ 4 ∷ 5 ∷ 6 ∷ 7 ∷ 0xF7 ∷ []

-- F0 F7 is one packet, and not none
not_none : ShutOut (0xF0 ∷ 0xF7 ∷ []) 0 (9 ∷ 9 ∷ []) (Ok 0) (9 ∷ 9 ∷ [])
unfolding to_sysex7 first_where pack packs packs_at packets_for status_for frame joined words_of
not_none κs a x s b g w r e p = differ (λ (o : Answer ℕ × List ℕ). told (λ v. v) o.0) tt (rw (b, g, w, r, e) at p)

-- F0 90 F7: F0 has index 0, so the place is 1
not_zero : ShutOut (0xF0 ∷ 0x90 ∷ 0xF7 ∷ []) 0 (9 ∷ 9 ∷ []) (refused_at Byte 0) (9 ∷ 9 ∷ [])
unfolding to_sysex7 first_where packets_for
not_zero κs a x s b g w r e p = differ (λ (o : Answer ℕ × List ℕ). told (λ v. v) o.0) tt (rw (b, g, w, r, e) at p)

-- F0 and group 16: Field comes before Frame
not_frame : ShutOut (0xF0 ∷ []) 16 (9 ∷ 9 ∷ []) (refused_at Frame 0) (9 ∷ 9 ∷ [])
unfolding to_sysex7 first_where packets_for
not_frame κs a x s b g w r e p = differ (λ (o : Answer ℕ × List ℕ). told (λ v. v) o.0) tt (rw (b, g, w, r, e) at p)

-- P12: the count is the payload size, and not that plus one
not_plus_one : ShutOut stream12 0 (replicate 4 9) (Ok 4) (0x30170102 ∷ 0x03040506 ∷ 0x30320700 ∷ 0 ∷ [])
unfolding to_sysex7 first_where pack packs packs_at packets_for status_for frame joined words_of
not_plus_one κs a x s b g w r e p = differ (λ o. get_or o.1 0 0) tt (rw (b, g, w, r, e) at p)

-- P12: words past the packets are not zeroed
not_zeroed : ShutOut stream12 0 (replicate 5 9) (Ok 4) (0x30160102 ∷ 0x03040506 ∷ 0x30310700 ∷ 0 ∷ 0 ∷ [])
unfolding to_sysex7 first_where pack packs packs_at packets_for status_for frame joined words_of
not_zeroed κs a x s b g w r e p = differ (λ o. get_or o.1 4 0) tt (rw (b, g, w, r, e) at p)

-- P12 with 3 words lent: a refusal writes nothing
not_written : ShutOut stream12 0 (replicate 3 9) (refused_at Room 0) (0x30160102 ∷ 0x03040506 ∷ 9 ∷ [])
unfolding to_sysex7 first_where pack packs packs_at packets_for status_for frame joined words_of
not_written κs a x s b g w r e p = differ (λ o. get_or o.1 0 0) tt (rw (b, g, w, r, e) at p)

-- F0 F8 F7: a clock byte is not refused; 01's rule refused it
not_refused : ShutOut (0xF0 ∷ 0xF8 ∷ 0xF7 ∷ []) 0 (9 ∷ 9 ∷ []) (refused_at Byte 1) (9 ∷ 9 ∷ [])
unfolding to_sysex7 first_where packets_for
not_refused κs a x s b g w r e p = differ (λ (o : Answer ℕ × List ℕ). told (λ v. v) o.0) tt (rw (b, g, w, r, e) at p)

-- and is no data
not_data : ShutOut (0xF0 ∷ 0xF8 ∷ 0xF7 ∷ []) 0 (9 ∷ 9 ∷ []) (Ok 2) (0x3001F800 ∷ 0 ∷ [])
unfolding to_sysex7 first_where pack packs packs_at packets_for status_for frame joined words_of
not_data κs a x s b g w r e p = differ (λ o. get_or o.1 0 0) tt (rw (b, g, w, r, e) at p)

-- F0 F8 F8 90 F7: the place counts the clock bytes
not_uncounted : ShutOut (0xF0 ∷ 0xF8 ∷ 0xF8 ∷ 0x90 ∷ 0xF7 ∷ []) 0 (9 ∷ 9 ∷ []) (refused_at Byte 1) (9 ∷ 9 ∷ [])
unfolding to_sysex7 first_where packets_for
not_uncounted κs a x s b g w r e p = differ (λ (o : Answer ℕ × List ℕ). told (λ v. v) o.0) tt (rw (b, g, w, r, e) at p)

-- six data bytes and a clock byte fit two words
not_more_room : ShutOut (0xF0 ∷ 1 ∷ 2 ∷ 3 ∷ 0xF8 ∷ 4 ∷ 5 ∷ 6 ∷ 0xF7 ∷ []) 0 (9 ∷ 9 ∷ []) (refused_at Room 0) (9 ∷ 9 ∷ [])
unfolding to_sysex7 first_where pack packs packs_at packets_for status_for frame joined words_of
not_more_room κs a x s b g w r e p = differ (λ (o : Answer ℕ × List ℕ). told (λ v. v) o.0) tt (rw (b, g, w, r, e) at p)
