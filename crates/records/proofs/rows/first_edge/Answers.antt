use mathlib.Core.Path.{◌≡◌, sym, ◌∙◌}
use native.Mathlib.Omega.{arith}
use lib.Dec.{ltb}
use borrow.Author.Count.{below_more}
use borrow.Author.Tests.{le-ltb, lt-ltb}
use Rattle.model.specs.Records.{keeps_table}
use Rattle.records.proofs.Judging.{edge_row, edge_next}
use Rattle.records.proofs.rows.first_edge.Goals.{After-edge_key-key}
use Rattle.records.proofs.rows.first_edge.Goals as goal

-- the comparison is the table's judgement of the record at hand
judged : (c : After-edge_key-key) → ltb c.loop-j.last c.edge_key-key.result ≡ keeps_table c.args.set.now c.args.place c.loop-j.j
judged c =
    let a = c.args in
    let loop = c.loop-j in
    edge_row a.set.now a.place a.n loop.j c.requires.n_value.0 (omega arith) c.edge_key-key.result c.edge_key-key.ensures
    (omega arith) (omega arith) loop.last loop.invariant.1

pub returns-then-key-last : goal.returns-then-key-last
returns-then-key-last c =
    let loop = c.loop-j in
    record {
      within = omega arith;
      before = loop.invariant.0;
      broken = λ l. sym (judged (goal.at.returns-then-key-last c).After-edge_key-key) ∙ le-ltb loop.last c.edge_key-key.result c.if-key-last.true;
    }

pub loop-j-preserved : goal.loop-j-preserved
loop-j-preserved c =
    let a = c.args in
    let loop = c.loop-j in
    let key = c.edge_key-key in (
      below_more _ _ loop.invariant.0 (sym (judged (goal.at.loop-j-preserved c).After-edge_key-key) ∙ lt-ltb loop.last key.result c.if-key-last.false),
      edge_next a.set.now a.place a.n loop.j c.requires.n_value.0 (omega arith) key.result key.ensures loop.last
          (omega arith) c.if-key-last.false,
    )
