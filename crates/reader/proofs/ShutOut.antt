-- Wrong answers that the promises shut out, each on an input where it would show. Assumes nothing.
use Rattle.std.specs.Prelude.{Ok, Option, Some, None}
use mathlib.Core.Path.{◌≡◌, ap}
use mathlib.Core.List.{List}
use Prim.Native.Nat.{ℕ}
use native.Mathlib.Omega.{arith}
use seplogic.Ra.Ura.{Ura}
use base.Fml.{GName, Lft}
use base.Logic.{SProp, ent}
use prog.Memory.{Memory}
use prog.Routine.{Routine}
use types.Logic.{Logic}
use contract.Lifetimes.{Lfts}
use contract.Monad.{Fun, fact, fact_mono}
use denote.Ref.{Bor, MutBor}
use denote.Triple.Clauses.{AtExit}
use borrow.Fn.Kinds.{ended_of}
use Rattle.refusal.proofs.Tight.{differ, told}
use Rattle.ump.specs.Word.{octets}
use Rattle.ump.specs.Packet.{size_of, payload_at, joined, payload}
use Rattle.ump.specs.Packing.{status_for}
use Rattle.ump.specs.Check.{first_where, bad_type, bad_status, bad_count, bad_group, bad_id, status_number, check_packets, check}
use Rattle.ump.specs.Reader as paper
use Rattle.ump.specs.Reader.{row, walk, places, unread, bytes_remaining}
use Rattle.ump.specs.Samples.{message2, message5, alone}
use Rattle.reader.specs.declared.Cursor.{Cursor}
use Rattle.reader.specs.declared.Read.{Read}
use Rattle.reader.specs.declared.PayloadReader.{PayloadReader}
use Rattle.reader.proofs.open.Kinds as open-kinds
use Rattle.reader.proofs.open.Reads as opening
use Rattle.reader.proofs.next.Kinds as next-kinds
use Rattle.reader.proofs.next.Reads as next
use Rattle.reader.proofs.nth.Kinds as nth-kinds
use Rattle.reader.proofs.nth.Reads as nth
use Rattle.reader.proofs.remaining.Kinds as remaining-kinds
use Rattle.reader.proofs.remaining.Reads as remaining
use Rattle.reader.proofs.payload_byte.Kinds as byte-kinds
use Rattle.reader.proofs.payload_byte.Reads as byte
use Rattle.reader.specs.contracts.PayloadReader.new as held_new
use Rattle.reader.specs.contracts.PayloadReader.nth as held-nth
use Rattle.reader.specs.contracts.PayloadReader.next as held_next
use Rattle.reader.specs.contracts.PayloadReader.remaining as held-remaining

-- the byte of a step; the end is no byte
abbrev value_of : paper.Step → ℕ
value_of (paper.byte value) = value
value_of paper.ended = 256

abbrev at : ℕ → ℕ → ℕ → Cursor
at packet byte remaining = record { packet = packet; byte = byte; remaining = remaining }

abbrev answer : (Option ℕ) → Cursor → Read
answer step cursor = record { step = step; cursor = cursor }

-- words that are lent, wherever they stand
module _ (κs : Lfts 1) (ptr : ℕ × ℕ) where
  abbrev lent : List ℕ → Bor (List ℕ)
  lent words = record { ref_ptr = ptr; now = words }

  module _ (s : AtExit (ended_of 1 next-kinds.ps next-kinds.r) κs) where
    -- octet 2, the stream id, as data
    not_the_id : next.Post κs (lent message2, (at 0 0 2, tt)) (answer (Some 7) (at 0 1 1)) s → ⊥
    unfolding paper.nth unread places walk row size_of
    not_the_id p = omega (arith, ap (λ (r : paper.Read). value_of r.step) p)

    -- the byte is read, and not passed
    not_unmoved : next.Post κs (lent message2, (at 0 0 2, tt)) (answer (Some 0x41) (at 0 0 1)) s → ⊥
    unfolding paper.nth unread places walk row size_of
    not_unmoved p = omega (arith, ap (λ (r : paper.Read). r.cursor.byte) p)

    -- the count is not gone by
    not_past_count : next.Post κs (lent message2, (at 0 1 0, tt)) (answer (Some 0x42) (at 0 2 0)) s → ⊥
    unfolding paper.nth unread places walk row size_of
    not_past_count p = omega (arith, ap (λ (r : paper.Read). value_of r.step) p)

  module _ (s : AtExit (ended_of 1 open-kinds.ps open-kinds.r) κs) where
    -- P5's message is opened at its second byte, or with its words for its bytes
    not_second : opening.Post κs (lent message5, (12, tt)) (Ok (at 0 1 3)) s → ⊥
    unfolding paper.reader check check_packets bad_type bad_status bad_count bad_group bad_id status_number first_where status_for payload payload_at size_of octets joined
    not_second p = differ (told (λ (c : paper.Cursor). c.byte)) tt p

    not_words : opening.Post κs (lent message5, (12, tt)) (Ok (at 0 0 12)) s → ⊥
    unfolding paper.reader check check_packets bad_type bad_status bad_count bad_group bad_id status_number first_where status_for payload payload_at size_of octets joined
    not_words p = differ (told (λ (c : paper.Cursor). c.remaining)) tt p

  module _ (s : AtExit (ended_of 1 nth-kinds.ps nth-kinds.r) κs) where
    -- a count of 15 as 14 bytes
    not_fourteen : nth.Post κs (lent (alone 0x500F0001), (at 0 0 14, (0, tt))) (answer (Some 1) (at 0 1 13)) s → ⊥
    unfolding paper.nth unread places walk row size_of
    not_fourteen p = omega (arith, ap (λ (r : paper.Read). value_of r.step) p)

    -- a byte number past its packet's size is carried over to the next packet
    not_carried : nth.Post κs (lent message5, (at 0 2 3, (0, tt))) (answer (Some 0) (at 2 3 2)) s → ⊥
    unfolding paper.nth unread places walk row size_of
    not_carried p = omega (arith, ap (λ (r : paper.Read). r.cursor.byte) p)

    -- the bytes that are skipped still count as remaining
    not_still_counted : nth.Post κs (lent message5, (at 0 0 3, (2, tt))) (answer (Some 0xA2) (at 2 1 2)) s → ⊥
    unfolding paper.nth unread places walk row size_of
    not_still_counted p = omega (arith, ap (λ (r : paper.Read). r.cursor.remaining) p)

  module _ (s : AtExit (ended_of 1 remaining-kinds.ps remaining-kinds.r) κs) where
    -- the count is ignored, or it alone is answered
    not_all_that_stand : remaining.Post κs (lent message5, (at 0 0 1, tt)) 3 s → ⊥
    unfolding bytes_remaining unread places walk row size_of
    not_all_that_stand p = omega (arith, p)

    not_the_count : remaining.Post κs (lent message5, (at 0 0 99, tt)) 99 s → ⊥
    unfolding bytes_remaining unread places walk row size_of
    not_the_count p = omega (arith, p)

  module _ (s : AtExit (ended_of 1 byte-kinds.ps byte-kinds.r) κs) where
    -- the end where a byte stands, or the byte before it
    not_ended : byte.Post κs (lent message5, (at 0 0 3, (2, tt))) None s → ⊥
    unfolding paper.nth unread places walk row size_of
    not_ended p = omega (arith, ap value_of p)

    not_the_first : byte.Post κs (lent message5, (at 0 0 3, (1, tt))) (Some 0xA0) s → ⊥
    unfolding paper.nth unread places walk row size_of
    not_the_first p = omega (arith, ap value_of p)

-- the methods over the held reader: a wrong outcome's promise is never met
module _ {M : Type 1} {𝓤 : Ura M} (𝓛 : Logic 𝓤) (mem : Memory → SProp 𝓤) (run : Routine → Fun 𝓤)
    (κ κ' : Lft) (ptr : ℕ × ℕ) (name : GName) where
  abbrev words : List ℕ → Bor (List ℕ)
  words ws = record { ref_ptr = ptr; now = ws }

  abbrev over : List ℕ → ℕ → ℕ → ℕ → PayloadReader
  over ws packet byte remaining = record { words = words ws; packet = packet; byte = byte; remaining = remaining }

  abbrev self : PayloadReader → MutBor PayloadReader
  self reader = record { ref_ptr = ptr; ghost_name = name; now = reader }

  module _ (s : AtExit held_new.ended (κ, tt)) where
    abbrev New : PayloadReader → SProp 𝓤
    New r = (held_new.clauses 𝓛 mem run (κ, tt) (words message5, (at 0 1 2, tt))).ensures tt r s

    -- at the start whatever the cursor, or without its count
    held_not_at_start : ent 𝓤 (New (over message5 0 0 2)) (fact 𝓤 ⊥)
    held_not_at_start = fact_mono 𝓤 _ ⊥ (λ p. omega (arith, ap (λ (r : PayloadReader). r.byte) p))

    held_not_empty : ent 𝓤 (New (over message5 0 1 0)) (fact 𝓤 ⊥)
    held_not_empty = fact_mono 𝓤 _ ⊥ (λ p. omega (arith, ap (λ (r : PayloadReader). r.remaining) p))

  module _ (s : AtExit held-nth.ended (κ, (κ', tt))) where
    abbrev Nth : (Option ℕ) → SProp 𝓤
    Nth r = (held-nth.clauses 𝓛 mem run (κ, (κ', tt)) (self (over message5 0 0 3), (1, tt))).ensures tt r s

    -- the byte that was to be skipped; the right byte, with the reader where it was
    held_not_skipped : ent 𝓤 (Nth (Some 0xA0)) (fact 𝓤 ⊥)
    unfolding paper.nth unread places walk row size_of
    held_not_skipped = fact_mono 𝓤 _ ⊥ (λ p. omega (arith, ap (λ (o : paper.Step × PayloadReader). value_of o.0) p))

    held_nth_moved : s.0.now ≡ over message5 0 0 3 → ent 𝓤 (Nth (Some 0xA1)) (fact 𝓤 ⊥)
    unfolding paper.nth unread places walk row size_of
    held_nth_moved e =
        fact_mono 𝓤 _ ⊥
        (λ p. omega (arith, ap (λ (r : PayloadReader). r.remaining) e, ap (λ (o : paper.Step × PayloadReader). o.1.remaining) p))

  module _ (s : AtExit held_next.ended (κ, (κ', tt))) where
    abbrev Next : PayloadReader → (Option ℕ) → SProp 𝓤
    Next h r = (held_next.clauses 𝓛 mem run (κ, (κ', tt)) (self h, tt)).ensures tt r s

    -- a byte after the end; the right byte, with the reader where it was
    held_not_after_end : ent 𝓤 (Next (over message5 3 0 0) (Some 0)) (fact 𝓤 ⊥)
    unfolding paper.nth unread places walk row size_of
    held_not_after_end = fact_mono 𝓤 _ ⊥ (λ p. omega (arith, ap (λ (o : paper.Step × PayloadReader). value_of o.0) p))

    held_next_moved : s.0.now ≡ over message5 0 0 3 → ent 𝓤 (Next (over message5 0 0 3) (Some 0xA0)) (fact 𝓤 ⊥)
    unfolding paper.nth unread places walk row size_of
    held_next_moved e =
        fact_mono 𝓤 _ ⊥ (λ p. omega (arith, ap (λ (r : PayloadReader). r.byte) e, ap (λ (o : paper.Step × PayloadReader). o.1.byte) p))

  module _ (s : AtExit held-remaining.ended (κ, tt)) where
    abbrev Remaining : PayloadReader → ℕ → SProp 𝓤
    Remaining h r = (held-remaining.clauses 𝓛 mem run (κ, tt) (h, tt)).ensures tt r s

    held_not_all : ent 𝓤 (Remaining (over message5 0 0 1) 3) (fact 𝓤 ⊥)
    unfolding bytes_remaining unread places walk row size_of
    held_not_all = fact_mono 𝓤 _ ⊥ (λ p. omega (arith, p))

    held_not_the_count : ent 𝓤 (Remaining (over message5 0 0 99) 99) (fact 𝓤 ⊥)
    unfolding bytes_remaining unread places walk row size_of
    held_not_the_count = fact_mono 𝓤 _ ⊥ (λ p. omega (arith, p))
