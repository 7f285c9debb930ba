-- `take_packet` meets its contract, case by case. Assumes nothing.
use mathlib.Core.Path.{◌≡◌, refl, sym, ap, ◌∙◌}
use Prim.Native.Nat.{ℕ, ◌-◌, ◌*◌, ◌^◌, ◌≤◌}
use native.Mathlib.Nat.{add-zero, zero-div}
use native.Mathlib.Omega.{arith}
use borrow.Author.Rules.{rules}
use Rattle.ump.specs.Packet.{sysex8, size_at, count_at}
use Rattle.ump.proofs.Sizes.{size_of_count}
use Rattle.merge.proofs.Bodies.{body-fits}
use Rattle.merge.proofs.Parts.{front_zero, front_all}
use Rattle.merge.proofs.pending.take_packet.Statement.{statement}
use Rattle.merge.proofs.pending.take_packet.Tie as tie

-- how many bytes the packet carries
some_is : (c : tie.After-count_of) → let x = c.args in c.count_of.result - 1 ≡ size_at sysex8 x.words.now x.packet
some_is c =
    ap (λ (n : ℕ). n - 1) c.count_of.ensures ∙ sym (size_of_count sysex8 (count_at sysex8 c.args.words.now c.args.packet) c.requires.1.1)

few : (c : tie.After-count_of) → (1 ≤ c.count_of.result) × (c.count_of.result ≤ 14)
few c = omega (arith, c.count_of.ensures, c.requires.1)

returns : tie.Need-returns-then-some-eq0
returns c =
    let x = c.args in
    let r = c.requires.0.1.1 in
    rw (sym (some_is c.before) ∙ c.if-some-eq0.true, front_zero _ (body-fits x.words.now x.packet))
    (record {
      appended = record { fewer = λ l. (refl, (rw (zero-div (2 ^ (8 * x.pending.count)), add-zero), (omega arith, refl))); enough = λ l. absurd (omega (arith, r.padded.few)) };
    })

append-requires : tie.Need-append-requires
append-requires c κs =
    let r = c.requires.0.1.1 in
    (omega arith, record { padded = r.padded; fits = omega (arith, c.requires.0, r.padded.few); small = r.small; free = r.free })

returns_2 : tie.Need-returns-then-some-eq13
returns_2 c =
    rw (sym (some_is c.before.before.before.before.before.before.before) ∙ c.if-some-eq13.true, ← c.load-bytes.ensures, front_all) c.append.ensures

append-requires-2 : tie.Need-append-requires-2
append-requires-2 c κs =
    let r = c.requires.0.1.1 in
    (omega (arith, few c.before.before.before.before.before), record { padded = r.padded; fits = omega (arith, c.requires.0, r.padded.few, few c.before.before.before.before.before); small = r.small; free = r.free })

returns-3 : tie.Need-returns
returns-3 c =
    rw (← (some_is c.before.before.before.before.before.before.before.before), ← c.load-bytes.ensures, ← c.front.ensures) c.append-2.ensures

pub take_packet_spec : {M : Type 1} → statement M
take_packet_spec =
    tie.close
    (tie.spec
    (λ c. search rules)
    (λ c. search rules)
    (λ c. search rules)
    (λ c κs. search rules)
    (λ c. search rules)
    (λ c. (few c).0)
    returns
    (λ c κs. search rules)
    append-requires
    (λ c. search rules)
    returns_2
    (λ c κs. omega (arith, few c.before.before.before.before))
    append-requires-2
    (λ c. search rules)
    returns-3)
