-- `listing::line::put_message`: the heading, the lines, the totals. Assumes nothing.
use Rattle.std.proofs.Common.{◌≡◌, ap, ◌∙◌, List, ◌++◌, ℕ, ◌+◌, ◌*◌, ◌/◌, ◌^◌, ◌≤◌, ◌<◌, length, length-append, append_assoc, arith, rules}
use Rattle.listing.specs.Listing.{ascii, heading, packet_lines, two_numbers, message_text}
use Rattle.listing.specs.Steps.{Passed}
use Rattle.listing.proofs.Lines.{few_packets, length_lines, length_two}
use Rattle.listing.proofs.line.put_message.Goals as goal

abbrev totals : List ℕ → ℕ → List ℕ
totals w size = two_numbers (ascii "payload ") size (ascii "words ") (length w)

-- the lines and the totals have room behind the heading
room : (w : List ℕ) (size : ℕ) → Passed w → length w < 2 ^ 64 → size < 2 ^ 64
    → (25 + 24 * (length w / 4) + length (totals w size) ≤ 98560) × (length (packet_lines w) ≤ 24 * (length w / 4))
room w size h l m =
    let few = few_packets w (length w) h in
    let c = length_two (ascii "payload ") (ascii "words ") size (length w) m l in
    (omega (arith, few, c), length_lines w (length w / 4) few)

four : (a b c d : List ℕ) → ((a ++ b) ++ c) ++ d ≡ a ++ (b ++ (c ++ d))
four a b c d = simp append_assoc

pub put_packets-requires : goal.put_packets-requires
unfolding heading
put_packets-requires g c =
    let r = room c.args.words.now c.args.size c.requires.0 (omega arith) (omega arith) in
    let n : length c.put.new.self ≡ length c.args.text.now + 25 = ap length c.put.ensures ∙ length-append c.args.text.now heading in
    (search rules, (c.requires.0, omega (arith, r.0, n, c.requires.1)))

pub put_numbers-requires : goal.put_numbers-requires
unfolding heading
put_numbers-requires g c =
    let w = c.args.words.now in
    let r = room w c.args.size c.requires.0 (omega arith) (omega arith) in
    let n : length c.put.new.self ≡ length c.args.text.now + 25 = ap length c.put.ensures ∙ length-append c.args.text.now heading in
    let m = ap length c.put_packets.ensures ∙ length-append c.put.new.self (packet_lines w) in
    (search rules, omega (arith, r.0, r.1, n, m, c.requires.1))

pub returns : goal.returns
unfolding heading message_text
returns g c =
    let w = c.args.words.now in
    rw (c.put_numbers.ensures, c.put_packets.ensures, c.put.ensures)
    (four c.args.text.now heading (packet_lines w) (totals w c.args.size))
