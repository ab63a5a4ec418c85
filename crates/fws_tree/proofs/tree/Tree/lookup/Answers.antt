use Rattle.std.proofs.Common.{◌≡◌, ◌<◌, ◌-◌, Some, None, length, sym, ◌∙◌, ap, subst, arith}
use Rattle.fws_tree.specs.Nodes.{tree_of}
use Rattle.fws_tree.specs.Plain.{value}
use Rattle.fws_tree.proofs.WayDown.{place_there, place_within, leaf_told}
use Rattle.fws_tree.proofs.tree.Tree.lookup.Goals as goal

pub unreachable-requires : goal.unreachable-requires
unreachable-requires g c =
    let f = c.self.inside in
    let k = place_there f.tops f.leaves f.nodes c.self.invariant _ c.args.p.now (ap (λ v. v.0) c.self.view_is) c.requires in
    let e : None ≡ Some k.0 = rw (c.as_slice.ensures, c.len.ensures) at c.in-None.ensures ∙ k.1 in
    absurd (cc)

pub bounds-as_slice-n : goal.bounds-as_slice-n
bounds-as_slice-n g c =
    let f = c.self.inside in
    rw c.as_slice-in-Some.ensures
    (place_within f.tops f.leaves f.nodes c.self.invariant _ c.args.p.now (ap (λ v. v.0) c.self.view_is) c.requires c.in-Some.n (rw (c.as_slice.ensures, c.len.ensures) at c.in-Some.ensures))

pub offset_bounds-as_slice-n : goal.offset_bounds-as_slice-n
offset_bounds-as_slice-n g c = let lt : c.in-Some.n < length c.as_slice-in-Some.result.now = bounds-as_slice-n g c in omega arith

pub returns : goal.returns
returns g c =
    let f = c.self.inside in
    let there : Some c.in-Some.n ≡ value (tree_of f.nodes (length f.nodes - 1)) c.args.p.now = rw (c.as_slice.ensures, c.len.ensures) at c.in-Some.ensures in
    let lt = place_within f.tops f.leaves f.nodes c.self.invariant _ c.args.p.now (ap (λ v. v.0) c.self.view_is) c.requires c.in-Some.n there in
    subst (λ t. value t c.args.p.now ≡ Some c.index-as_slice-n.result) (ap (λ v. v.1) c.self.view_is)
    (leaf_told f.leaves (tree_of f.nodes (length f.nodes - 1)) c.args.p.now c.in-Some.n c.index-as_slice-n.result (sym there) lt (rw c.as_slice-in-Some.ensures at c.index-as_slice-n.is))
