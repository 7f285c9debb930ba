-- What is said of looking at an edited dump, over the promises of the library's calls. Assumes nothing.
use mathlib.Core.Path.{◌≡◌, refl, sym, ap, ◌∙◌}
use mathlib.Core.List.{List, [], ◌∷◌}
use Prim.Native.Nat.{ℕ}
use lib.ListN.{length}
use Rattle.refusal.specs.Answer.{Answer, gives, refused}
use Rattle.refusal.specs.Tight.{lent}
use Rattle.ump.specs.Packet.{sysex8}
use Rattle.edit.proofs.Worker.{family, struct}
use Rattle.edit.proofs.Demand as edit
use Rattle.look.specs.Look as definition
use Rattle.look.specs.Look.{find, edit_by, patch_by, shown, stands_at}
use Rattle.look.specs.Looked.{FoundRuns, LentRuns, LookedAt, PromisedLooks, PromisedLender}
use Rattle.look.proofs.Named.{byte_named, message_named, read_named, said_of, said_meant}
use Rattle.look.proofs.Unique.{found_back, found_meant}
use Rattle.look.proofs.Calls.{Finds, Lends, Looks, LooksIn, Reads}
use Rattle.look.proofs.Looking as laws

promised : PromisedLooks sysex8 Finds Looks LooksIn Reads
promised =
    record {
      finds = λ c. sym c.answer_is ∙ (rw c.given at c.promise);
      looks = λ c. let g = c.given in sym c.answer_is ∙ (rw (g.0, g.1, g.2, g.3) at c.promise);
      looks_in = λ c. let g = c.given in sym c.answer_is ∙ (rw (g.0, g.1, g.2, g.3, g.4) at c.promise);
      reads = λ c. let g = c.given in sym c.answer_is ∙ (rw (g.0, g.1, g.2) at c.promise);
      can_find = λ n edit i. record {
        lifetimes = tt;
        arguments = (n, (struct edit, (i, tt)));
        said = found_back (find n edit i);
        exit = (n, (struct edit, (i, tt)));
        promise = found_meant n edit i;
        given = refl;
        answer_is = found_meant n edit i;
        left = tt;
      };
      can_look = λ dump numbers bytes i.
          let h = byte_named dump numbers bytes i in
          record {
            lifetimes = ([], ([], ([], tt)));
            arguments = (lent dump, (lent numbers, (lent bytes, (i, tt))));
            said = said_of h;
            exit = (lent dump, (lent numbers, (lent bytes, (i, tt))));
            promise = said_meant h;
            given = (refl, refl, refl, refl);
            answer_is = said_meant h;
            left = tt;
          };
      can_look_in = λ words len numbers bytes i.
          let h = message_named sysex8 words len numbers bytes i in
          record {
            lifetimes = ([], ([], ([], tt)));
            arguments = (lent words, (len, (lent numbers, (lent bytes, (i, tt)))));
            said = said_of h;
            exit = (lent words, (len, (lent numbers, (lent bytes, (i, tt)))));
            promise = said_meant h;
            given = (refl, refl, refl, refl, refl);
            answer_is = said_meant h;
            left = tt;
          };
      can_read = λ words len i.
          let h = read_named sysex8 words len i in
          record {
            lifetimes = ([], tt);
            arguments = (lent words, (len, (i, tt)));
            said = said_of h;
            exit = (lent words, (len, (i, tt)));
            promise = said_meant h;
            given = (refl, refl, refl);
            answer_is = said_meant h;
            left = tt;
          };
    }

-- what an answer that gives says
abbrev valued : Answer ((ℕ × ℕ) × List ℕ) → (ℕ × ℕ) × List ℕ
valued (gives value) = value
valued (refused number place) = ((0, 0), [])

lent_is : (dump : List ℕ) (from to : ℕ) (replacement : List ℕ) (i : ℕ)
    → let answer = find (length dump) (edit_by from to replacement) i in
    (stands_at (0, 0) (0, 0) answer, shown dump (patch_by from to replacement ∷ []) answer) ≡ definition.part_lent (0, 0) (0, 0) dump from to replacement i
unfolding definition.part_lent
lent_is dump from to replacement i = refl

lends_promised : PromisedLender Lends
lends_promised =
    record {
      lends = λ c.
          let g = c.given in
          sym (ap valued c.answer_is) ∙ (rw (g.0, g.1, g.2, g.3, g.4, g.5, g.6) at c.promise);
      can_lend = λ dump from to replacement i.
          let here = stands_at (0, 0) (0, 0) (find (length dump) (edit_by from to replacement) i) in
          let part = shown dump (patch_by from to replacement ∷ []) (find (length dump) (edit_by from to replacement) i) in
          record {
            dump-at = (0, 0);
            replacement_at = (0, 0);
            at = here;
            call =
                record {
                  lifetimes = ([], tt);
                  arguments = (lent dump, (from, (to, (lent replacement, (i, tt)))));
                  said = record { ref_ptr = here; now = part };
                  exit = (lent dump, (from, (to, (lent replacement, (i, tt)))));
                  promise = lent_is dump from to replacement i;
                  given = (refl, refl, refl, refl, refl, refl, refl);
                  answer_is = refl;
                  left = tt;
                };
          };
    }

pub found_runs : FoundRuns sysex8 family Finds Reads
found_runs = laws.found_runs edit.promised promised

pub lent_runs : LentRuns Finds Lends
lent_runs = laws.lent_runs edit.promised promised lends_promised

pub looked_at : LookedAt sysex8 family Finds Looks LooksIn Reads
looked_at = laws.looked_at edit.promised promised
