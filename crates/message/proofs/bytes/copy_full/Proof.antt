-- `message::bytes::copy_full`: the first byte, then four with each word. Assumes nothing.
use borrow.Author.Rules.{rules}
use mathlib.Core.Path.{◌≡◌, refl, ◌∙◌}
use Prim.Native.Nat.{◌+◌}
use native.Mathlib.Omega.{arith}
use lib.Seq.{paste}
use Rattle.ump.specs.Packet.{sysex8, payload_at}
use Rattle.message.proofs.Copying.{first_byte, row_more, as_many}
use Rattle.message.proofs.bytes.copy_full.Statement.{statement}
use Rattle.message.proofs.bytes.copy_full.Tie as tie

-- the bytes after each word
second : (c : tie.After-put_four) →
    c.put_four.new.bytes ≡ paste c.args.bytes.now c.args.at (payload_at sysex8 c.args.words.now c.args.packet) 5
second c =
    c.put_four.ensures ∙ row_more _ _ _ _ c.requires.0 c.requires.1 1 1 5 (c.args.at + 1) (first_byte _ _ _ _ c.requires.0 c.requires.1 c.octet_of.ensures) refl (omega arith) refl refl

third : (c : tie.After-put_four-2) →
    c.put_four-2.new.bytes ≡ paste c.args.bytes.now c.args.at (payload_at sysex8 c.args.words.now c.args.packet) 9
third c =
    c.put_four-2.ensures ∙ row_more _ _ _ _ c.requires.0 c.requires.1 2 5 9 (c.args.at + 5) (second c.before.before.before.before.before) refl (omega arith) refl refl

fourth : (c : tie.After-put_four-3) →
    c.put_four-3.new.bytes ≡ paste c.args.bytes.now c.args.at (payload_at sysex8 c.args.words.now c.args.packet) 13
fourth c =
    c.put_four-3.ensures ∙ row_more _ _ _ _ c.requires.0 c.requires.1 3 9 13 (c.args.at + 9) (third c.before.before.before.before.before) refl (omega arith) refl refl

returns : tie.Need-returns
returns c =
    rw c.requires.1 (fourth c.before.before)

pub copy_full_spec : {M : Type 1} → statement M
copy_full_spec =
    tie.close
    (tie.spec
    (λ c. search rules)
    (λ c. search rules)
    (λ c. search rules)
    (λ c κs. search rules)
    (λ c. search rules)
    (λ c. search rules)
    (λ c. search rules)
    (λ c. search rules)
    (λ c. search rules)
    (λ c κs. let p = c.requires.0 in omega (arith, p.room, c.requires.1, as_many _ _ _ _ p c.requires.1 1 (first_byte _ _ _ _ p c.requires.1 c.octet_of.ensures) (omega arith)))
    (λ c. search rules)
    (λ c. search rules)
    (λ c. search rules)
    (λ c. search rules)
    (λ c κs. omega (arith, c.requires.0.room, c.requires.1, as_many _ _ _ _ c.requires.0 c.requires.1 5 (second c.before.before.before.before) (omega arith)))
    (λ c. search rules)
    (λ c. search rules)
    (λ c. search rules)
    (λ c. search rules)
    (λ c κs. omega (arith, c.requires.0.room, c.requires.1, as_many _ _ _ _ c.requires.0 c.requires.1 9 (third c.before.before.before.before) (omega arith)))
    (λ c. as_many _ _ _ _ c.requires.0 c.requires.1 13 (fourth c.before.before) (omega arith))
    returns)
