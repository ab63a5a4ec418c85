use Rattle.std.proofs.Common.{ℕ, ◌*◌, ◌<◌, List, arith, refl}
use Rattle.std.proofs.lemmas.Option.{MatchOption-at_none}
use Rattle.fws_place.specs.Apart.{has_bit, place_in, AreAlikeBy, AreApart}
use Rattle.fws_place.proofs.Apartness.{alike_all, alike_first, alike_next}
use Rattle.fws_place.proofs.apart.apart_among.Goals as goal

pub loop-size-init : goal.loop-size-init
loop-size-init g c = record {
  some = omega arith;
  alike = alike_first (λ x. place_in g.L.PartialEq.eq c.args.kept.now.keys x) c.args.fields c.args.tree.now.0 c.args.tree.now.1 c.args.off.now;
}

pub loop-size-preserved : goal.loop-size-preserved
loop-size-preserved g c =
    let t = c.args.tree.now in
    let off = c.args.off.now in
    let keys = c.args.kept.now.keys in
    let size : ℕ = c.loop-size.size in
    let some : 0 < size = c.loop-size.invariant.some in
    let bit : AreAlikeBy (λ x. has_bit size (place_in g.L.PartialEq.eq keys x)) c.args.fields t.0 t.1 off
    = MatchOption-at_none (AreAlikeBy (λ x. has_bit size (place_in g.L.PartialEq.eq keys x)) c.args.fields t.0 t.1 off) (λ (pair : List ℕ × List ℕ). AreApart c.args.fields t.0 t.1 off pair.0 pair.1)
    c.in_default.is c.in_ok-found.ensures in
    record {
      some = omega (arith, some);
      alike = alike_next (λ x. place_in g.L.PartialEq.eq keys x) c.args.fields t.0 t.1 off size (size * 2) some refl c.loop-size.invariant.alike bit;
    }

pub returns : goal.returns
returns g c =
    alike_all g.L.PartialEq.eq g.met.L.Eq.laws g.met.L.Leaf.exact c.args.fields c.args.tree.now.0 c.args.tree.now.1 c.args.off.now c.args.kept.now.keys c.loop-size.size
    c.requires (omega (arith, c.len-count.ensures.len, c.loop-size-test.false)) c.loop-size.invariant.alike
