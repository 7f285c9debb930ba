-- Where the bytes of a delta on a whole dump come from, and of a delta on that delta, computed.
-- Assumes nothing.
use Rattle.std.specs.Prelude.{◌≡◌, refl, List, [], ◌∷◌, ◌++◌, map, ℕ, replicate}
use Rattle.ump.specs.Packet.{joined}
use Rattle.ump.specs.Packing.{packets_for}
use Rattle.ump.specs.Edits.{replaced}
use Rattle.ump.specs.Runs.{run_from}
use Rattle.ump.specs.Origin.{header_octet, carried, dump_byte, filler, zeroed, origin_of, origin_in}
use Rattle.store.specs.Store.{Dump, whole, delta, held}
use Rattle.chain.specs.Restore.{roomed, outside, rebuilt, restored}
use Rattle.chain.specs.Origin.{Provenance, whole_byte, delta_byte, nowhere, source_of, proven_byte, origin_at}

-- dump 3 rests on dump 2, and that on dump 1: 41 42 44, then 41 43 45 44, then 46 43 45 47 44
abbrev dumps : List Dump
dumps =
    delta 3 2 (record { from = 0; to = 1; bytes = 0x46 ∷ [] } ∷ record { from = 3; to = 3; bytes = 0x47 ∷ [] } ∷ [])
    ∷ whole 1 2 7 (0x41 ∷ 0x42 ∷ 0x44 ∷ [])
    ∷ delta 2 1 (record { from = 1; to = 2; bytes = 0x43 ∷ 0x45 ∷ [] } ∷ [])
    ∷ []

abbrev sources_of : ℕ → ℕ → List Provenance
sources_of n size = joined (λ i. source_of dumps 4 n i ∷ []) size

pub record Traces : Type 0 where
  -- a delta on a whole dump; it has no fifth byte
  pub on_whole : sources_of 2 5 ≡ whole_byte 1 0 ∷ delta_byte 2 0 0 ∷ delta_byte 2 0 1 ∷ whole_byte 1 2 ∷ nowhere ∷ []
  -- a delta on a delta
  pub on_delta : sources_of 3 5 ≡ delta_byte 3 0 0 ∷ delta_byte 2 0 0 ∷ delta_byte 2 0 1 ∷ delta_byte 3 1 0 ∷ whole_byte 1 2 ∷ []
  -- the bytes that come from there
  pub bytes : map (proven_byte dumps) (sources_of 3 5) ≡ 0x46 ∷ 0x43 ∷ 0x45 ∷ 0x47 ∷ 0x44 ∷ []
  -- the octets of five bytes in five words: header, bytes, filler, and a word of zero
  pub octets : joined (λ q. origin_at 5 5 q ∷ []) 20
      ≡ (header_octet 0 0 ∷ header_octet 0 1 ∷ header_octet 0 2 ∷ map carried (joined (λ i. dump_byte i ∷ []) 5))
      ++ (replicate 8 filler ++ replicate 4 zeroed)

pub traces : Traces
unfolding source_of held restored rebuilt roomed outside replaced run_from origin_in origin_of packets_for joined
traces = record { on_whole = refl; on_delta = refl; bytes = refl; octets = refl }
