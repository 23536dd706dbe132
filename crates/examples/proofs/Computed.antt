-- Every row computes. Assumes nothing.
use Rattle.std.proofs.Common.{refl}
use Rattle.image.specs.Reading.{unpadded}
use Rattle.examples.specs.Examples.{Examples}

pub computed : Examples
unfolding unpadded
computed = record {
  first_length = refl;
  first_bytes = refl;
  first_read = refl;
  cut_read = refl;
  cut_cause = refl;
  cut_good = refl;
  cut_opened = refl;
  cut_granted = refl;
  cut_mended = refl;
  empty_read = refl;
  header_read = refl;
  fifteen_refused = refl;
  headless_number = refl;
  over_number = refl;
  name_120 = refl;
  name_121 = refl;
  name_120_noted = refl;
  name_121_refused = refl;
  name_number = refl;
  inputs_64_noted = refl;
  inputs_65_refused = refl;
  inputs_number = refl;
  path_120 = refl;
  path_121 = refl;
  path_257th = refl;
  inputs_64 = refl;
  inputs_65 = refl;
  noted_new = refl;
  noted_table = refl;
  noted_again = refl;
  noted_known = refl;
  noted_length = refl;
  noted_read = refl;
  noted_entry = refl;
  noted_latest = refl;
  compacted_length = refl;
  compacted_granted = refl;
  compacted_bytes = refl;
  compacted_read = refl;
  compacted_again = refl;
  moved_bytes = refl;
  moved_length = refl;
  manifest_read = refl;
  listing_read = refl;
  plan_made = refl;
}
