-- `listing::line::put_packet`: a message that passed has no packet that the single reader refuses. Assumes nothing.
use Rattle.std.proofs.Common.{◌≡◌, ap, ◌∙◌, List, ℕ, ◌*◌, ◌-◌, ◌/◌, ◌<◌, length, take, drop, length-drop, arith}
use lib.Seq.{take_all}
use Rattle.refusal.specs.Answer.{gives}
use Rattle.refusal.proofs.Laws.{never_refused}
use Rattle.ump.specs.Single.{read_packet8, packet_at}
use Rattle.ump.proofs.Singles.{single_read}
use Rattle.listing.specs.Steps.{Passed}
use Rattle.listing.proofs.Lines.{few_packets, length-line, line_of}
use Rattle.listing.proofs.line.put_packet.Goals as goal

-- the packet is read
read : (w : List ℕ) (p : ℕ) → Passed w → p < length w / 4 → read_packet8 (take (length w - 4 * p) (drop (4 * p) w)) ≡ gives (packet_at w p)
read w p h k =
    let i = 4 * p in
    ap read_packet8 (take_all (length w - i) (drop i w) (rw length-drop (omega arith))) ∙ single_read w _ h p k

-- so it is not refused
pub put_fault-requires : goal.put_fault-requires
put_fault-requires g c = never_refused (c.in_default.ensures ∙ read _ _ c.requires.0 c.requires.1)

pub returns-in_default : goal.returns-in_default
returns-in_default g c = never_refused (c.in_default.ensures ∙ read _ _ c.requires.0 c.requires.1)

pub put_line-requires : goal.put_line-requires
put_line-requires g c =
    let w = c.args.words.now in
    rw (line_of _ _ c.requires.0 _ c.requires.1 _ _ _ _ (c.in-Ok.ensures ∙ read _ _ c.requires.0 c.requires.1))
    (omega (arith, c.requires.2, length-line w c.args.number (omega (arith, c.requires.1, few_packets w _ c.requires.0))))

pub returns : goal.returns
returns g c =
    rw (line_of _ _ c.requires.0 _ c.requires.1 _ _ _ _ (c.in-Ok.ensures ∙ read _ _ c.requires.0 c.requires.1)) at c.put_line.ensures
