use Rattle.std.proofs.Common.{◌≡◌, ◌<◌, get_or, length, ◌∙◌, subst, sym}
use Rattle.std.proofs.lemmas.List.{length-map}
use Rattle.fws_tree.specs.Marks.{sides_of}
use Rattle.fws_exec.proofs.Bounding.{have_each}
use Rattle.fws_exec.proofs.hull.Hull.of_mark.Goals as goal

pub returns : goal.returns
returns c p n h =
    let long : length (sides_of c.args.mark.now) ≡ 12 = length-map c.args.mark.now.sides (λ s. s.now) ∙ c.args.mark.now.twelve in
    record {
      twelve = n;
      low = λ k lt. c.lows_of.ensures.least k (get_or p k 0) lt (have_each (sides_of c.args.mark.now) p k h (subst (λ m. k < m) (sym long) lt));
      high = λ k lt. c.highs_of.ensures.greatest k (get_or p k 0) lt (have_each (sides_of c.args.mark.now) p k h (subst (λ m. k < m) (sym long) lt));
    }
