-- What is gathered row by row.
use Rattle.std.proofs.Common.{◌≡◌, ℕ, zero, suc, ◌+◌, ◌<◌, Some, slice_get, get_or, take, length, List, [], ◌∷◌, ◌++◌, ap, ◌∙◌, subst}
use Rattle.std.proofs.lemmas.List.Elements.{All-more, All-weaker}
use Rattle.fws_net.specs.declared.outcome.Outcome.{Outcome}
use Rattle.fws_net.specs.declared.outcome.Outcome.TheVariants.{Drop, Accept}
use Rattle.fws_net.specs.declared.outcome.Rewrite.{Rewrite}
use Rattle.fws_tree.specs.declared.row.Row.{Row}
use Rattle.fws_ipt_put.specs.declared.telling.Uses.{Uses}
use Rattle.fws_ipt_put.specs.Gathered.{Covers, CoversAll, Extends, HaveRewrites, IsRewriteOf, IsWithinSet}

-- one more row
pub covers_more : (w : Rewrite) (old new : Uses) (rows : List (Row Outcome)) (i : ℕ) (row : Row Outcome) → i < length rows → row ≡ get_or rows i row
    → CoversAll w old (take i rows) → (row.leaf ≡ Accept w → Covers new row)
    → IsWithinSet old.entries new.entries → IsWithinSet old.protos new.protos → IsWithinSet old.dsts new.dsts → IsWithinSet old.srcs new.srcs
    → CoversAll w new (take (i + 1) rows)
covers_more w old new rows i row below is before here entries protos dsts srcs =
    let P : Row Outcome → Type 0 = λ (r : Row Outcome). r.leaf ≡ Accept w → Covers old r in
    let Q : Row Outcome → Type 0 = λ (r : Row Outcome). r.leaf ≡ Accept w → Covers new r in
    All-more Q rows i row below
    (All-weaker P Q (λ r covers leaf.
    let c = covers leaf in
    record {
      twelve = c.twelve;
      entries = λ v h. entries v (c.entries v h);
      protos = λ v h. protos v (c.protos v h);
      dsts = λ v h. dsts v (c.dsts v h);
      srcs = λ v h. srcs v (c.srcs v h);
    }) (take i rows) before)
    (subst Q is here)

got_more : (xs more : List Rewrite) (i : ℕ) (w : Rewrite) → slice_get xs i ≡ Some w → slice_get (xs ++ more) i ≡ Some w
got_more [] more i w h = absurd (cc)
got_more (x ∷ xs) more zero w h = h
got_more (x ∷ xs) more (suc i) w h = got_more xs more i w h

still_there : (old new : List Rewrite) → Extends old new → (o : Outcome) → IsRewriteOf old o → IsRewriteOf new o
still_there old new extends Drop h = tt
still_there old new extends (Accept w) h = λ writing.
    let there = h writing in
    (there.0, ap (λ l. slice_get l there.0) extends.1 ∙ got_more old extends.0 there.0 w there.1)

pub rewrites_more : (old new : List Rewrite) (rows : List (Row Outcome)) (i : ℕ) (row : Row Outcome) → i < length rows → row ≡ get_or rows i row
    → HaveRewrites old (take i rows) → IsRewriteOf new row.leaf → Extends old new → HaveRewrites new (take (i + 1) rows)
rewrites_more old new rows i row below is before here extends =
    let P : Row Outcome → Type 0 = λ (r : Row Outcome). IsRewriteOf old r.leaf in
    let Q : Row Outcome → Type 0 = λ (r : Row Outcome). IsRewriteOf new r.leaf in
    All-more Q rows i row below (All-weaker P Q (λ r h. still_there old new extends r.leaf h) (take i rows) before) (subst Q is here)
