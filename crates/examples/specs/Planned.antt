-- The manifest, the listing and the entries of the worked plan. Assumes nothing.
use Rattle.std.specs.Prelude.{ℕ, true, cond, List, [], ◌∷◌, ◌++◌, Some, None, codes, Option}
use Rattle.std.specs.Str.{bytes_eq}
use Rattle.manifest.specs.Books.{Book}
use Rattle.listing.specs.Rows.{Listed}
use Rattle.planner.specs.declared.letter.PlanLine.{PlanLine}
use Rattle.planner.specs.declared.letter.Letter.TheVariants.{Missing, Newer}
use Rattle.planner.specs.Noted.{Noted}
use Rattle.planner.specs.Stale.{World}

abbrev pub manifest_text : List ℕ
manifest_text = codes "rule cc" ++ 10 ∷ codes "  deps = gcc" ++ 10 ∷ codes "build a.o: cc a.c" ++ 10 ∷ codes "build b.o: cc a.o || maps" ++ 10 ∷ []

abbrev pub listing_text : List ℕ
listing_text = codes "5 a.c" ++ 10 ∷ codes "8 ab.h" ++ 10 ∷ codes "7 a.o" ++ 10 ∷ []

abbrev pub book : Book
book = record {
  rules = record { name = codes "cc"; keeps = true } ∷ [];
  statements =
      record { line = 3; rule = 0; outputs = codes "a.o" ∷ []; inputs = record { plain = codes "a.c" ∷ []; implicit = []; order = [] } }
      ∷ record { line = 4; rule = 0; outputs = codes "b.o" ∷ []; inputs = record { plain = codes "a.o" ∷ []; implicit = []; order = codes "maps" ∷ [] } }
      ∷ [];
}

abbrev pub rows : List Listed
rows = record { name = codes "a.c"; mtime = 5 } ∷ record { name = codes "ab.h"; mtime = 8 } ∷ record { name = codes "a.o"; mtime = 7 } ∷ []

-- the one entry: output a.o with mtime 7 and the inputs a.c and ab.h
abbrev pub entry : List ℕ → Option Noted
entry name = cond (bytes_eq name (codes "a.o")) (Some (record { index = 0; mtime = 7; inputs = codes "a.c" ∷ codes "ab.h" ∷ [] })) None

abbrev pub world : World
world = record { book = book; listing = rows; entry = entry }

-- 0 N, 1 M
abbrev pub plan : List PlanLine
plan = record { number = 0; letter = Newer } ∷ record { number = 1; letter = Missing } ∷ []
