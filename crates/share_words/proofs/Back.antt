-- A stored state reads back, so each call gets what the last one left. Assumes nothing.
use mathlib.Core.Path.{◌≡◌, refl}
use Rattle.share_state.specs.declared.state.State.{State}
use Rattle.share_words.specs.Words.{state_in, state_words}

pub words_back : (s : State) → state_in (state_words s) ≡ s
words_back s = refl
