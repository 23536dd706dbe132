use Rattle.notes.proofs.Wholes.{accepted, note_reads-back, notes_read_back, noting_keeps, mending_keeps}
use Rattle.notes.proofs.Cut.{cut_anywhere}
use Rattle.notes.proofs.LatestNoted.{latest-noted, agree_goes_on}
use Rattle.notes.proofs.Lengths.{note_adds}
use Rattle.notes.proofs.laws_of_noting.Goals as goal

pub returns : goal.returns
returns c = record {
  accepted = accepted;
  adds = note_adds;
  read_back = note_reads-back;
  all_read_back = notes_read_back;
  keeps = noting_keeps;
  cut = cut_anywhere;
  mended = mending_keeps;
  latest = latest-noted;
  agree = agree_goes_on;
}
