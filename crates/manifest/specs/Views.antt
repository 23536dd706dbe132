-- What the values that are kept of a manifest stand for. Assumes nothing.
use Rattle.std.specs.Prelude.{ℕ, ◌+◌, List, map, take, drop}
use Rattle.terms.specs.declared.Place.{Place}
use Rattle.words.specs.Spelling.{name_at}
use Rattle.manifest.specs.declared.rule.Rule.{Rule}
use Rattle.manifest.specs.declared.rule.Statement.{Statement}
use Rattle.manifest.specs.Books.{Declaration, Making}

abbrev pub declaration : List ℕ → Rule → Declaration
declaration text r = record { name = name_at text r.name; keeps = r.keeps }

-- the names of so many words from one on
abbrev pub names : List ℕ → List Place → ℕ → ℕ → List (List ℕ)
names text words start count = map (name_at text) (take count (drop start words))

abbrev pub making : List ℕ → List Place → Statement → Making
making text words s =
    let plain = s.first + s.outputs in
    let implicit = plain + s.plain in
    let order = implicit + s.implicit in
    record {
      line = s.line;
      rule = s.rule;
      outputs = names text words s.first s.outputs;
      inputs = record { plain = names text words plain s.plain; implicit = names text words implicit s.implicit; order = names text words order s.order };
    }
