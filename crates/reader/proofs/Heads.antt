-- The head of a plan: the first two lines of a text, and what stands behind them. Assumes nothing.
use mathlib.Core.Path.{◌≡◌, sym, ap, ◌∙◌}
use mathlib.Core.List.{List, []}
use Prim.Native.Nat.{ℕ}
use lib.ListN.{take, drop}
use lib.Seq.{get_or-drop, drop-drop}
use Rattle.bicycle_common.specs.Bytes.{bytes_of}
use Rattle.reader.specs.Lines.{lines, line_at, line_length}
use Rattle.text.specs.Reads.{on}
use Rattle.reader.specs.Plans.{matrix_line, native_lines, read_lines, read_plan}
use Rattle.reader.proofs.Lines.{lines_first, lines_rest}

-- the first line, and what stands behind it
abbrev pub first : List ℕ → List ℕ
first s = take (line_length s) s

abbrev pub rest : List ℕ → List ℕ
rest s = drop (line_length s) s

pub read_head : (s : List ℕ) → read_plan s ≡ on (matrix_line (bytes_of "mx=") (first s)) (λ (mx : List ℕ). on (matrix_line (bytes_of "my=") (first (rest s)))
    (λ (my : List ℕ). native_lines (record { mx = mx; my = my }) (lines (rest (rest s)))))
unfolding read_plan read_lines
read_head s =
    let r : drop 1 (lines s) ≡ lines (rest s) = lines_rest s in
    let l : line_at 1 (lines s) ≡ first (rest s) = sym (get_or-drop 1 (lines s) 0 []) ∙ ap (line_at 0) r ∙ lines_first (rest s) in
    let d : drop 2 (lines s) ≡ lines (rest (rest s)) = sym (drop-drop 1 1 (lines s)) ∙ ap (drop 1) r ∙ lines_rest (rest s) in
    rw (lines_first s, l, d)
