use Rattle.std.proofs.Common.{rules, arith, ◌≡◌, ◌+◌, ◌∙◌, List, [], length, length-append, map, reverse, subst, ap}
use Rattle.std.proofs.lemmas.List.{length-reverse, length-map}
use Rattle.fws_unfold.specs.declared.draft.Draft.{Draft}
use Rattle.fws_unfold.specs.Drafts.{Does, walk_of}
use Rattle.fws_unfold.specs.Used.{Uses, used_of}
use Rattle.fws_unfold.specs.Blocks.{placed}
use Rattle.fws_unfold.proofs.Told.{told_made}
use Rattle.fws_unfold.proofs.Placed.{block_made}
use Rattle.fws_unfold.proofs.blocks.put_block.Goals as goal

pub returns-clause-block : goal.returns-clause-block
returns-clause-block c =
    let chains = c.args.chains.now in
    let drafts = c.put_chain.new.out.items in
    let does : Does (λ s. walk_of chains s c.args.c) 0 [] (reverse drafts) =
    subst (λ (old : List Draft). Does (λ s. walk_of chains s c.args.c) 0 (reverse old) (reverse drafts)) c.new-drafts.ensures.items c.in_ok-put_chain.ensures.does in
    let same = length-reverse drafts in
    let first : c.in_ok-first.first ≡ length c.args.code.now.items = omega (arith, c.in_ok-first.ensures, c.len.ensures) in
    let size : c.in_ok-size.size ≡ length (reverse drafts) = omega (arith, c.in_ok-size.ensures, c.len-2.ensures, same) in
    let sum : c.in-Some.past ≡ c.in_ok-first.first + c.in_ok-size.size = search rules in
    block_made chains c.args.c c.args.code.now.items c.place_all.new.code.items (reverse drafts) _ does c.in_ok-place_all.ensures.code first (omega arith)

pub returns-clause-tells : goal.returns-clause-tells
returns-clause-tells c =
    let chains = c.args.chains.now in
    let drafts = c.put_chain.new.out.items in
    let does : Does (λ s. walk_of chains s c.args.c) 0 [] (reverse drafts) =
    subst (λ (old : List Draft). Does (λ s. walk_of chains s c.args.c) 0 (reverse old) (reverse drafts)) c.new-drafts.ensures.items c.in_ok-put_chain.ensures.does in
    let same = length-reverse drafts in
    let first : c.in_ok-first.first ≡ length c.args.code.now.items = omega (arith, c.in_ok-first.ensures, c.len.ensures) in
    let size : c.in_ok-size.size ≡ length (reverse drafts) = omega (arith, c.in_ok-size.ensures, c.len-2.ensures, same) in
    let sum : c.in-Some.past ≡ c.in_ok-first.first + c.in_ok-size.size = search rules in
    let uses : Uses (λ s. used_of chains s c.args.c) (λ s. walk_of chains s c.args.c) 0 [] (reverse drafts) =
    subst (λ (old : List Draft). Uses (λ s. used_of chains s c.args.c) (λ s. walk_of chains s c.args.c) 0 (reverse old) (reverse drafts)) c.new-drafts.ensures.items c.in_ok-put_chain.ensures.uses in
    told_made chains c.args.c c.args.code.now.items c.place_all.new.code.items c.args.rules.now.items c.place_all.new.rules.items (reverse drafts) _ does uses
    c.in_ok-place_all.ensures.code c.in_ok-place_all.ensures.rules c.requires.even first (omega arith)

pub returns-clause-longer : goal.returns-clause-longer
returns-clause-longer c = record { more = _; is = c.in_ok-place_all.ensures.code }

pub returns-clause-more : goal.returns-clause-more
returns-clause-more c = record { more = _; is = c.in_ok-place_all.ensures.rules }

pub returns-clause-even : goal.returns-clause-even
returns-clause-even c =
    let drafts : List Draft = reverse c.put_chain.new.out.items in
    let rules = ap length c.in_ok-place_all.ensures.rules ∙ length-append c.args.rules.now.items (map (λ (draft : Draft). draft.rule) drafts) in
    let code = ap length c.in_ok-place_all.ensures.code ∙ length-append c.args.code.now.items (map (placed c.in-Some.past) drafts) in
    let a = length-map drafts (λ (draft : Draft). draft.rule) in
    let b = length-map drafts (placed c.in-Some.past) in
    omega (arith, rules, code, a, b, c.requires.even)
