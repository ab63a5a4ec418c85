use Rattle.std.proofs.Common.{◌≡◌, ◌||◌, ◌∙◌, ap}
use Rattle.fws_exec.specs.Views.{is_of_src, is_of_dst, shows, shows_all}
use Rattle.fws_exec.proofs.Alike.{shown_or, shows_more}
use Rattle.fws_exec.proofs.views.Sides.with_test.Goals as goal

pub returns-clause-shown : goal.returns-clause-shown
returns-clause-shown c =
    let src : c.either.result ≡ (c.args.self.src || is_of_src c.args.test.now) = c.either.ensures ∙ ap (λ k. c.args.self.src || k) c.is_of_src.ensures in
    let dst : c.either-2.result ≡ (c.args.self.dst || is_of_dst c.args.test.now) = c.either-2.ensures ∙ ap (λ k. c.args.self.dst || k) c.is_of_dst.ensures in
    ap (λ k. shows (record { src = k; dst = c.either-2.result }) c.args.test.now) src
    ∙ ap (λ k. shows (record { src = c.args.self.src || is_of_src c.args.test.now; dst = k }) c.args.test.now) dst
    ∙ shown_or c.args.self c.args.test.now

pub returns-clause-kept : goal.returns-clause-kept
returns-clause-kept c lits h =
    ap (λ k. shows_all (record { src = k; dst = c.either-2.result }) lits) c.either.ensures
    ∙ ap (λ k. shows_all (record { src = c.args.self.src || c.is_of_src.result; dst = k }) lits) c.either-2.ensures
    ∙ shows_more c.args.self c.is_of_src.result c.is_of_dst.result lits h
