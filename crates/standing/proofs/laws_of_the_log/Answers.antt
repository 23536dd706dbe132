use Rattle.standing.proofs.Sounds.{new-is_sound, calls_keep_sound, sound_tells, sound_opens}
use Rattle.standing.proofs.laws_of_the_log.Goals as goal

pub returns : goal.returns
returns c = record { made = new-is_sound; kept = calls_keep_sound; tells = sound_tells; opens = sound_opens }
