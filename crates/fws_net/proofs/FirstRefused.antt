-- The first refused line is refused by itself, and every line ahead of it is read.
use Rattle.std.proofs.Common.{◌≡◌, ℕ, Result, Ok, Err, List, [], ◌∷◌, ◌++◌, refl, sym, ap, subst, ◌∙◌}
use Rattle.fws_num.specs.declared.lines.Line.{Line}
use Rattle.fws_net.specs.Reading.{Refusal, and_then, located, lines_read, AreRead, none_left, next_read, IsFirstRefused}
use Rattle.fws_net.specs.ReadingLaws.{FirstRefusedDecides}

-- a line that is read stands ahead of the refused one
one_more : {S C : Type 0} (step : S → Line → Result S C) (s t : S) (l : Line) (ls : List Line) (r : Refusal C) → step s l ≡ Ok t
    → IsFirstRefused step t ls r → IsFirstRefused step s (l ∷ ls) r
one_more step s t l ls r e first = record {
  ahead = l ∷ first.ahead;
  refused = first.refused;
  behind = first.behind;
  reached = first.reached;
  divides = ap (λ rest. l ∷ rest) first.divides;
  read = next_read e first.read;
  number = first.number;
  by_itself = first.by_itself;
}

-- the line itself is refused
itself : {S C : Type 0} (step : S → Line → Result S C) (s : S) (l : Line) (ls : List Line) (r : Refusal C) (cause : C) → step s l ≡ Err cause
    → l.number ≡ r.line → cause ≡ r.cause → IsFirstRefused step s (l ∷ ls) r
itself step s l ls r cause e n c = record {
  ahead = [];
  refused = l;
  behind = ls;
  reached = s;
  divides = refl;
  read = none_left;
  number = sym n;
  by_itself = e ∙ ap (λ x. Err x) c;
}

by_step : {S C : Type 0} (step : S → Line → Result S C) (s : S) (l : Line) (ls : List Line) (r : Refusal C) (o : Result S C) → step s l ≡ o
    → ((t : S) → lines_read step t ls ≡ Err r → IsFirstRefused step t ls r)
    → and_then (located l.number o) (λ next. lines_read step next ls) ≡ Err r → IsFirstRefused step s (l ∷ ls) r
by_step step s l ls r (Ok t) e more h = one_more step s t l ls r e (more t h)
by_step {S = S} {C = C} step s l ls r (Err cause) e more h =
    let made : Refusal C = record { line = l.number; cause = cause } in
    let same : made ≡ r = cc in
    itself step s l ls r cause e (ap (λ x. x.line) same) (ap (λ x. x.cause) same)

refused_by : {S C : Type 0} (step : S → Line → Result S C) (s : S) (ls : List Line) (r : Refusal C) → lines_read step s ls ≡ Err r → IsFirstRefused step s ls r
refused_by step s [] r h = absurd cc
refused_by step s (l ∷ ls) r h = by_step step s l ls r (step s l) refl (λ t e. refused_by step t ls r e) h

-- behind lines that are read, reading goes on
reads_on : {S C : Type 0} (step : S → Line → Result S C) (s a : S) (ahead rest : List Line) → AreRead step s ahead a
    → lines_read step s (ahead ++ rest) ≡ lines_read step a rest
reads_on step s a ahead rest none_left = refl
reads_on step s a ahead rest (next_read {t = t} {l = l} {ls = ls} h more) =
    ap (λ o. and_then (located l.number o) (λ next. lines_read step next (ls ++ rest))) h ∙ reads_on step t a ls rest more

decided_by : {S C : Type 0} (step : S → Line → Result S C) (s : S) (ls : List Line) (r : Refusal C) → IsFirstRefused step s ls r → lines_read step s ls ≡ Err r
decided_by {S = S} {C = C} step s ls r first =
    let made : Refusal C = record { line = first.refused.number; cause = r.cause } in
    let same : made ≡ r = ap (λ (n : ℕ). let x : Refusal C = record { line = n; cause = r.cause } in x) (sym first.number) in
    ap (lines_read step s) first.divides
    ∙ reads_on step s first.reached first.ahead (first.refused ∷ first.behind) first.read
    ∙ ap (λ o. and_then (located first.refused.number o) (λ next. lines_read step next first.behind)) first.by_itself
    ∙ ap (λ x. Err x) same

read_step : {S C : Type 0} (step : S → Line → Result S C) (s a : S) (l : Line) (ls : List Line) (o : Result S C) → step s l ≡ o
    → ((t : S) → lines_read step t ls ≡ Ok a → AreRead step t ls a)
    → and_then (located l.number o) (λ next. lines_read step next ls) ≡ Ok a → AreRead step s (l ∷ ls) a
read_step step s a l ls (Ok t) e more h = next_read e (more t h)
read_step step s a l ls (Err cause) e more h = absurd cc

read_by : {S C : Type 0} (step : S → Line → Result S C) (s a : S) (ls : List Line) → lines_read step s ls ≡ Ok a → AreRead step s ls a
read_by {S = S} step s a [] h =
    let same : s ≡ a = cc in
    let P : S → Type 0 = λ x. AreRead step s [] x in subst P same none_left
read_by step s a (l ∷ ls) h = read_step step s a l ls (step s l) refl (λ t e. read_by step t a ls e) h

pub decides : (S C : Type 0) → FirstRefusedDecides S C
decides S C = record {
  refused = λ step s ls r h. refused_by step s ls r h;
  decides = λ step s ls r h. decided_by step s ls r h;
  read = λ step s a ls h. read_by step s a ls h;
}
