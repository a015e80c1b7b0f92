-- A call of the builder as data.
-- Assumes nothing.
use Rattle.builder_call.specs.declared.call.Call.{Call}
use Rattle.node_table.specs.Hashing.{Start}
use Rattle.node_table.specs.Table.{Table}
use Rattle.builder.specs.Answers.{Built}
use Rattle.builder.specs.Calls.{main_cell_of, aux_cell_of, challenge_of, alpha_power_of, table_offset_of, add_of, sub_of, mul_of, neg_of, embed_of}

-- what a call makes of the table
abbrev pub call_of : Start → Call → Table → Built
call_of start (Call.Main offset col) t = main_cell_of start t offset col
call_of start (Call.Aux offset col) t = aux_cell_of start t offset col
call_of start (Call.Challenge idx) t = challenge_of start t idx
call_of start (Call.AlphaPower idx) t = alpha_power_of start t idx
call_of start Call.TableOffset t = table_offset_of start t
call_of start (Call.Add a b) t = add_of start t a b
call_of start (Call.Sub a b) t = sub_of start t a b
call_of start (Call.Mul a b) t = mul_of start t a b
call_of start (Call.Neg a) t = neg_of start t a
call_of start (Call.Embed a) t = embed_of start t a
