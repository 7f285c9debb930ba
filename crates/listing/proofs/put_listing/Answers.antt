-- `listing::put_listing`: the refusal's line, or the message's text. Assumes nothing.
use Rattle.std.proofs.Common.{◌≡◌, refl, sym, ap, ◌∙◌, List, ℕ, length, take, drop, arith, rules}
use lib.Seq.{take_at}
use Rattle.ump.specs.Word.{words_of}
use Rattle.ump.specs.Check.{Summary}
use Rattle.ump.specs.Packet.{sysex8}
use Rattle.ump.proofs.Checks.{passes_valid}
use Rattle.listing.proofs.Loading.{Loaded, loaded, not_loaded}
use Rattle.listing.proofs.put_listing.Goals as goal

-- the words of a message that passed are what is lent on
part : {bytes words after : List ℕ} {m : Summary} → Loaded bytes words after m → take m.words after ≡ words_of bytes
part {bytes} {words} {after} {m} l =
    let w = words_of bytes in
    rw (l.size, l.words_are) (take_at w (drop (length w) words) (length w) refl)

pub slice_bounds-put_message-end : goal.slice_bounds-put_message-end
slice_bounds-put_message-end c =
    let m = loaded _ _ _ _ c.in-Ok.ensures in
    omega (arith, m.size, (passes_valid sysex8 _ _ m.passes).short_enough, c.load-loaded.auto.words, c.requires.0)

pub slice_bounds-put_message-end-2 : goal.slice_bounds-put_message-end-2
slice_bounds-put_message-end-2 c =
    let m = loaded _ _ _ _ c.in-Ok.ensures in
    m.size ∙ ap length (sym (part m))

pub put_message-requires : goal.put_message-requires
put_message-requires c =
    let m = loaded _ _ _ _ c.in-Ok.ensures in
    let e : length c.args.text.now ≡ 0 = ap length c.requires.1 in
    (search rules, (rw (part m) m.passes, omega (arith, e)))

pub returns : goal.returns
returns c =
    let m = loaded _ _ _ _ c.in-Ok.ensures in
    rw m.text_is (rw (part m, c.requires.1) at c.put_message.ensures)

pub returns-in_default : goal.returns-in_default
returns-in_default c =
    rw (not_loaded _ _ _ _ _ (rw c.unwrap_err.ensures at c.load-loaded.ensures)) (rw c.requires.1 at c.put_fault.ensures)
