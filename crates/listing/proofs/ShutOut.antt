-- Wrong outcomes that the promise shuts out. Assumes nothing.
use Rattle.std.specs.Prelude.{Ok, Err}
use mathlib.Core.Path.{◌≡◌, sym, ap, ◌∙◌}
use mathlib.Core.List.{List, []}
use Prim.Native.Nat.{ℕ, ◌≤◌, ◌<◌}
use contract.Lifetimes.{Lfts}
use denote.Triple.Clauses.{AtExit}
use lib.ListN.{length, get_or}
use borrow.Fn.Kinds.{Dens, res_t, ended_of}
use Rattle.refusal.specs.Answer.{Answer, gives}
use Rattle.refusal.specs.declared.Refusal.TheVariants.{Missing, Room}
use Rattle.refusal.proofs.Laws.{never_both}
use Rattle.refusal.proofs.Tight.{differ, told}
use Rattle.ump.specs.Word.{octets}
use Rattle.ump.specs.Samples.{message5}
use Rattle.listing.specs.Listing.{last_digits, heading, number, two_numbers, refusal_line, listing}
use Rattle.listing.specs.Steps.{over}
use Rattle.listing.proofs.Loading.{handed_room, handed_whole}
use Rattle.listing.proofs.Samples.{samples}
use Rattle.listing.proofs.list.Kinds as list-kinds
use Rattle.listing.proofs.list.Reads as list
use Rattle.listing.proofs.refuse.Kinds as refuse-kinds
use Rattle.listing.proofs.refuse.Reads as refuse
use Rattle.refusal.specs.Meaning.{answer_of}

module _ (κs : Lfts 2) (a : Dens κs list-kinds.ps) (x : (res_t list-kinds.r κs).Denot) (s : AtExit (ended_of 2 list-kinds.ps list-kinds.r) κs)
    (post : list.Post κs a x s) where
  outcome : length (listing a.0.now) ≤ length a.1.0.now → ◌≡◌ {A = Answer ℕ × List ℕ}
      (answer_of x, s.1.0.now) (gives (length (listing a.0.now)), over (listing a.0.now) a.1.0.now)
  outcome text = post ∙ handed_whole _ _ text

  -- P5: its text without the totals
  not_shorter : 90 ≤ length a.1.0.now → a.0.now ≡ octets message5 → x ≡ Ok 71 → ⊥
  not_shorter text b e = differ (told (λ v. v)) tt (rw (e, b, samples.P5) at (ap (λ o. o.0) (outcome (rw (b, samples.P5) text))))

  -- P5: a text that is exactly as long is room enough
  not_no_room : 90 ≤ length a.1.0.now → a.0.now ≡ octets message5 → x ≡ Err (record { refusal = Room; place = 0 }) → ⊥
  not_no_room text b e = differ (told (λ v. v)) tt (rw (e, b, samples.P5) at (ap (λ o. o.0) (outcome (rw (b, samples.P5) text))))

  -- no bytes: the heading, or no text at all
  not_heading : 15 ≤ length a.1.0.now → a.0.now ≡ [] → get_or s.1.0.now 0 0 ≡ get_or heading 0 0 → ⊥
  unfolding heading
  not_heading text b e = differ (λ (n : ℕ). n) tt (sym e ∙ rw (b, samples.none) at (ap (λ o. get_or o.1 0 0) (outcome (rw (b, samples.none) text))))

  not_silent : 15 ≤ length a.1.0.now → a.0.now ≡ [] → x ≡ Ok 0 → ⊥
  not_silent text b e = differ (told (λ v. v)) tt (rw (e, b, samples.none) at (ap (λ o. o.0) (outcome (rw (b, samples.none) text))))

  -- a text that is too short is no room, and stays
  not_cut : length a.1.0.now < length (listing a.0.now) → (size : ℕ) → x ≡ Ok size → ⊥
  not_cut text size e = never_both (sym (ap answer_of e) ∙ ap (λ o. o.0) (post ∙ sym (handed_room _ _ text)))

-- ---- the line of a refusal alone: Missing

module _ (κs : Lfts 1) (a : Dens κs refuse-kinds.ps) (x : (res_t refuse-kinds.r κs).Denot) (s : AtExit (ended_of 1 refuse-kinds.ps refuse-kinds.r) κs)
    (post : refuse.Post κs a x s) (room : length (refusal_line 24 0) ≤ length a.1.0.now) (missing : a.0 ≡ record { refusal = Missing; place = 0 }) where
  refusal_outcome : ◌≡◌ {A = Answer ℕ × List ℕ} (answer_of x, s.1.0.now)
      (gives (length (refusal_line 24 0)), over (refusal_line 24 0) a.1.0.now)
  refusal_outcome = rw missing at post ∙ handed_whole _ _ room

  -- the end of the line is left out
  not_open : x ≡ Ok 15 → ⊥
  unfolding refusal_line two_numbers number last_digits
  not_open e = differ (told (λ v. v)) tt (rw e at (ap (λ o. o.0) refusal_outcome))

  -- the number of another refusal
  not_another : get_or s.1.0.now 9 0 ≡ 53 → ⊥
  unfolding refusal_line two_numbers number last_digits
  not_another e = differ (λ (n : ℕ). n) tt (sym e ∙ ap (λ o. get_or o.1 9 0) refusal_outcome)
