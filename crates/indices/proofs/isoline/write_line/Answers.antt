use Rattle.buffer.proofs.Laws.{counting}
use Rattle.indices.specs.Isolines.{line_words}
use Rattle.indices.proofs.isoline.write_line.Goals as goal

pub loop-c-init : goal.loop-c-init
unfolding line_words
loop-c-init c = search counting

pub put2-to-requires : goal.put2-to-requires
put2-to-requires c = search counting

pub loop-c-preserved : goal.loop-c-preserved
loop-c-preserved c = search counting

pub returns : goal.returns
unfolding line_words
returns c = search counting
