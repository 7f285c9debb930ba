-- Listings of document 01, computed. Assumes nothing.
use mathlib.Core.Path.{◌≡◌, refl}
use mathlib.Core.List.{[], ◌++◌}
use lib.ListN.{take}
use Rattle.ump.specs.Word.{octets, words_of}
use Rattle.ump.specs.Packet.{size_of, payload_at, joined, payload}
use Rattle.ump.specs.Packing.{status_for}
use Rattle.ump.specs.Check.{first_where, bad_type, bad_status, bad_count, bad_group, bad_id, status_number, check_packets, check, checked}
use Rattle.ump.specs.Samples.{alone, message2, message4, message5}
use Rattle.listing.specs.Listing.{ascii, last_digits, heading, number, id_end, status_name, line, packet_line, two_numbers, words_in, checked_in, refusal_line, message_text, text_of, listing}

pub record Samples : Type 0 where
  -- P5's first message
  pub P5 : listing (octets message5) ≡ ascii "at group status count id\n0 1 start 2 05\n4 1 continue 0 05\n8 1 end 1 05\npayload 3 words 12\n"
  pub P2 : listing (octets message2) ≡ ascii "at group status count id\n0 2 complete 2 07\npayload 2 words 4\n"
  -- the end of P4, an unexpected end to the single reader, is an end
  pub P4 : listing (octets message4) ≡ ascii "at group status count id\n0 0 start 13 00\n4 0 end 0 00\npayload 13 words 8\n"
  -- P4's first five words
  pub five : listing (octets (take 5 message4)) ≡ ascii "refused 4 at 0\n"
  pub none : listing [] ≡ ascii "refused 3 at 0\n"
  -- P2 behind P5: the third packet is no continue packet
  pub behind : listing (octets (message5 ++ message2)) ≡ ascii "refused 8 at 8\n"
  -- the id in upper case
  pub upper : listing (octets (alone 0x5F01EF00)) ≡ ascii "at group status count id\n0 15 complete 0 EF\npayload 0 words 4\n"

pub samples : Samples
unfolding octets words_of size_of payload_at joined payload status_for first_where bad_type bad_status bad_count bad_group bad_id status_number check_packets check checked last_digits heading number id_end status_name line packet_line two_numbers words_in checked_in refusal_line message_text text_of listing
samples = record {
  P5 = refl;
  P2 = refl;
  P4 = refl;
  five = refl;
  none = refl;
  behind = refl;
  upper = refl;
}
