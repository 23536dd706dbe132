use Rattle.std.proofs.Common.{◌∙◌, ◌/◌, ltb, length, rules, tests, w32}
use Rattle.std.specs.Int.{from_le_bytes}
use Rattle.std.specs.Simd.{first_chunks}
use Rattle.std.proofs.lemmas.Iterator.{YieldsList-from_slice}
use Rattle.std.proofs.lemmas.Iterator.Search.{all_from_yields_List}
use Rattle.image.proofs.Chunks.{all-words}
use Rattle.image.proofs.words.all_below.Goals as goal

pub returns : goal.returns
returns c =
    let ids = c.args.ids.now in
    all_from_yields_List (λ w. ltb (from_le_bytes w32 w) c.args.count) _ _ c.all.result c.all.ensures.ran
    (YieldsList-from_slice (first_chunks 4 (length ids / 4) ids) (c.iter.ensures.rest ∙ c.as_chunks.ensures.front)) (λ x b q k. search (rules, tests)) ∙
    all-words (λ id. ltb id c.args.count) (length ids / 4) ids
