use mathlib.Core.Path.{◌≡◌, sym, ◌∙◌, ap}
use native.Mathlib.Omega.{arith}
use borrow.Author.Count.{below_more}
use Rattle.model.specs.Records.{vertex_record, keeps_table}
use Rattle.records.proofs.Judging.{vertex_row}
use Rattle.records.proofs.rows.first_vertex.Goals.{After-vertex_record}
use Rattle.records.proofs.rows.first_vertex.Goals as goal

-- the test is the table's judgement of the record at hand
judged : (c : After-vertex_record) → c.vertex_record.result ≡ keeps_table c.args.set.now c.args.place c.loop-v.v
judged c =
    let a = c.args in
    let v = c.loop-v.v in
    c.vertex_record.ensures ∙ ap (vertex_record a.n v) c.record_at.ensures
    ∙ vertex_row a.set.now a.place a.n v c.requires.0 (omega arith) (omega arith)

pub returns-then-not-vertex_record : goal.returns-then-not-vertex_record
returns-then-not-vertex_record c =
    record {
      within = omega arith;
      before = c.loop-v.invariant;
      broken = λ l. sym (judged (goal.at.returns-then-not-vertex_record c).After-vertex_record) ∙ c.if-not-vertex_record.true;
    }

pub loop-v-preserved : goal.loop-v-preserved
loop-v-preserved c =
    below_more _ _ c.loop-v.invariant (sym (judged (goal.at.loop-v-preserved c).After-vertex_record) ∙ c.if-not-vertex_record.false)
