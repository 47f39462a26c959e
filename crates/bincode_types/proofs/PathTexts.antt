-- Paths with the same text are equal.
use Rattle.std.specs.Prelude.{◌≡◌, ℕ, true, List}
use Rattle.std.specs.Cmp.Lexicographic.{texts_ties}
use Rattle.std.specs.Ordering.{is_eq}
use Rattle.std.specs.Path.{path_cmp, path_sort_key}
use Rattle.std.proofs.Common.{sym, ap, ◌∙◌}
use lib.Pointwise.{bytes_decides}
use Rattle.bincode_spec.specs.Meaning.{Meaning, IsBytes}
use Rattle.bincode_lemmas.specs.TextLaws.{text-same}

-- texts of one meaning are texts of equal paths
pub paths-alike : (xs ys : List ℕ) (m : Meaning) → IsBytes xs m → IsBytes ys m → is_eq (path_cmp xs ys) ≡ true
paths-alike xs ys m a b =
    let same : xs ≡ ys = text-same xs ys m a b in
    sym (texts_ties (path_sort_key xs) (path_sort_key ys)) ∙ (bytes_decides (path_sort_key xs) (path_sort_key ys)).1 (ap path_sort_key same)
