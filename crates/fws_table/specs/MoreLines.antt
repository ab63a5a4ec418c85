-- Rows behind others: their lines, their number, and those that hold something.
use Rattle.std.specs.Prelude.{◌≡◌, ℕ, ◌+◌, Option, List, [], ◌++◌, length}
use Rattle.std.specs.List.{flat_map}
use Rattle.std.proofs.Common.{sym, ◌∙◌, ap, arith, append_assoc, length-append}
use Rattle.std.proofs.lemmas.List.{append-nil}
use Rattle.std.proofs.lemmas.Grind.{flat_map-append}
use Rattle.fws_net.specs.declared.outcome.Outcome.{Outcome}
use Rattle.fws_net.specs.declared.packet.State.{State}
use Rattle.fws_net.specs.declared.site.Site.{Site}
use Rattle.fws_net.specs.Points.{tops_of}
use Rattle.fws_tree.specs.declared.row.Row.{Row}
use Rattle.fws_table.specs.QueryText.{held_row, held_rows}
use Rattle.fws_table.specs.TableText.{row_text}

-- no rows, no lines
pub no_lines : (site : Site) (state : State) (out : List ℕ) → out ≡ out ++ flat_map (row_text site state) []
no_lines site state out = sym (append-nil out)

-- lines, and others behind them
pub lines_behind : (site there : Site) (state after : State) (tops over : List ℕ) (a b c : List ℕ) (xs ys : List (Row Outcome)) → there ≡ site → after ≡ state → over ≡ tops
    → (tops ≡ tops_of site → b ≡ a ++ flat_map (row_text site state) xs) → (over ≡ tops_of there → c ≡ b ++ flat_map (row_text there after) ys)
    → tops ≡ tops_of site → c ≡ a ++ flat_map (row_text site state) (xs ++ ys)
lines_behind site there state after tops over a b c xs ys e f g first behind fit =
    let line = row_text site state in
    behind (g ∙ fit ∙ ap tops_of (sym e))
    ∙ ap (λ l. b ++ flat_map l ys) (ap (λ s. row_text s after) e ∙ ap (row_text site) f)
    ∙ ap (λ l. l ++ flat_map line ys) (first fit)
    ∙ append_assoc a (flat_map line xs) (flat_map line ys)
    ∙ ap (λ l. a ++ l) (sym (flat_map-append line xs ys))

-- no rows, no number
pub none_counted : (n : ℕ) → n ≡ n + length {A = Row Outcome} []
none_counted n = omega arith

-- so many rows, and others behind them
pub counted_behind : (a b c : ℕ) (xs ys : List (Row Outcome)) → b ≡ a + length xs → c ≡ b + length ys → c ≡ a + length (xs ++ ys)
counted_behind a b c xs ys e f = let l = length-append xs ys in omega (arith, e, f, l)

-- of rows behind others those that hold something stand behind those of the others
pub held_behind : (xs ys : List (Row (Option Outcome))) → held_rows (xs ++ ys) ≡ held_rows xs ++ held_rows ys
held_behind xs ys = flat_map-append (λ row. held_row row.sides row.leaf) xs ys
