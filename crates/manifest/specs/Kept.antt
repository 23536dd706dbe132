-- What was read of a manifest so far. Assumes nothing.
use Rattle.std.specs.Prelude.{ℕ, List, map}
use Rattle.lists.specs.Grown.{items}
use Rattle.manifest.specs.declared.reader.Reader.{Reader}
use Rattle.manifest.specs.Books.{Book, Reading}
use Rattle.manifest.specs.Views.{declaration, making}

abbrev pub book_of : List ℕ → Reader → Book
book_of text r = record { rules = map (declaration text) (items r.rules); statements = map (making text (items r.words)) (items r.statements) }

abbrev pub reading_of : List ℕ → Reader → Reading
reading_of text r = record { book = book_of text r; owner = r.owner }
