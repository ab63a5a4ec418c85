use Rattle.fws_top.proofs.tables.tables.Goals as goal

pub returns-clause-walked : goal.returns-clause-walked
returns-clause-walked c = λ walk does. record {
  fresh_tops = c.in_ok-fresh.ensures.tops;
  est_tops = c.in_ok-est.ensures.tops;
  fresh_reduced = c.in_ok-fresh.ensures.reduced;
  est_reduced = c.in_ok-est.ensures.reduced;
  fresh_walked = c.in_ok-fresh.ensures.walked walk does;
  est_walked = c.in_ok-est.ensures.walked walk does;
}

pub returns-clause-regular : goal.returns-clause-regular
returns-clause-regular c = λ walk does regular.
    c.regular_walks_make_regular_tables.ensures c.args.site.now walk (record { fresh = c.in_ok-fresh.fresh; est = c.in_ok-est.est }) regular
    (record {
      fresh_tops = c.in_ok-fresh.ensures.tops;
      est_tops = c.in_ok-est.ensures.tops;
      fresh_reduced = c.in_ok-fresh.ensures.reduced;
      est_reduced = c.in_ok-est.ensures.reduced;
      fresh_walked = c.in_ok-fresh.ensures.walked walk does;
      est_walked = c.in_ok-est.ensures.walked walk does;
    })
