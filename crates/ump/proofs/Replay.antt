-- All ranges replaced at once, patch by patch. Assumes nothing.
use mathlib.Core.Path.{◌≡◌, refl, ap, ap₂, ◌∙◌}
use mathlib.Core.List.{List, [], ◌∷◌, ◌++◌, append_assoc}
use Prim.Native.Nat.{ℕ, suc}
use lib.ListN.{length, drop}
use lib.Seq.{slice}
use Rattle.ump.specs.Packet.{joined}
use Rattle.ump.specs.Edits.{Patch, patch_at, end_before, replaced}
use Rattle.ump.proofs.Joined.{joined_cong, joined_front}
use Rattle.ump.proofs.Replace.{end_from, end_before_lem, end_next}

-- from the end of the range before on
unfoldable pub replay : List ℕ → ℕ → List Patch → List ℕ
replay bytes end [] = drop end bytes
replay bytes end (patch ∷ patches) = slice end patch.from bytes ++ (patch.bytes ++ replay bytes patch.to patches)

abbrev part : List ℕ → ℕ → List Patch → ℕ → List ℕ
part bytes end patches i = slice (end_from end patches i) (patch_at patches i).from bytes ++ (patch_at patches i).bytes

replay_is : (bytes : List ℕ) (end : ℕ) (patches : List Patch)
    → joined (part bytes end patches) (length patches) ++ drop (end_from end patches (length patches)) bytes ≡ replay bytes end patches
unfolding replay joined
replay_is bytes end [] = refl
replay_is bytes end (patch ∷ patches) =
    let n = length patches in
    let f : ℕ → List ℕ = part bytes end (patch ∷ patches) in
    let g : ℕ → List ℕ = part bytes patch.to patches in
    ap₂ (λ (x y : List ℕ). x ++ y)
    (joined_front f n
    ∙ ap (λ (x : List ℕ). f 0 ++ x)
    (joined_cong (λ i. f (suc i)) g n
    (λ i h. ap (λ (k : ℕ). slice k (patch_at patches i).from bytes ++ (patch_at patches i).bytes) (end_next patch patches i))))
    (ap (λ (k : ℕ). drop k bytes) (end_next patch patches n))
    ∙ append_assoc (f 0) (joined g n) (drop (end_from patch.to patches n) bytes)
    ∙ append_assoc (slice end patch.from bytes) patch.bytes _
    ∙ ap (λ (l : List ℕ). slice end patch.from bytes ++ (patch.bytes ++ l)) (replay_is bytes patch.to patches)

pub replaced_is : (bytes : List ℕ) (patches : List Patch) → replaced bytes patches ≡ replay bytes 0 patches
unfolding replaced
replaced_is bytes patches =
    ap₂ (λ (x y : List ℕ). x ++ y)
    (joined_cong (λ i. slice (end_before patches i) (patch_at patches i).from bytes ++ (patch_at patches i).bytes) (part bytes 0 patches) (length patches)
    (λ i h. ap (λ (k : ℕ). slice k (patch_at patches i).from bytes ++ (patch_at patches i).bytes) (end_before_lem patches i)))
    (ap (λ (k : ℕ). drop k bytes) (end_before_lem patches (length patches)))
    ∙ replay_is bytes 0 patches
