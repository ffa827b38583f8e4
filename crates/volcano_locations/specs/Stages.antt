-- The stages of a record, as `csv` reads it in its default dialect.
use Rattle.std.specs.Prelude.{Bool, true, false}
use Rattle.csv.specs.declared.parser.State.{State}
use Rattle.csv.specs.declared.parser.State.TheVariants as st
use Rattle.csv.specs.declared.parser.Action.{Action}
use Rattle.csv.specs.declared.parser.Action.TheVariants as act
use Rattle.volcano_locations.specs.declared.stage.RecordState.{RecordState}
use Rattle.volcano_locations.specs.declared.stage.RecordState.TheVariants as record_state
use Rattle.volcano_locations.specs.declared.stage.Action.{Action as OwnAction}
use Rattle.volcano_locations.specs.declared.stage.Action.TheVariants as action
use Rattle.volcano_locations.specs.declared.stage.Turn.{Turn}

abbrev pub state_of : RecordState → State
state_of record_state.StartRecord = st.StartRecord
state_of record_state.StartField = st.StartField
state_of record_state.InField = st.InField
state_of record_state.InQuoted = st.InQuoted
state_of record_state.AfterQuote = st.AfterQuote
state_of record_state.AfterCr = st.AfterCr

abbrev pub action_of : OwnAction → Action
action_of action.Skip = act.Skip
action_of action.Copy = act.Copy
action_of action.EndField = act.EndField
action_of action.EndRecord = act.EndRecord

-- what a byte does, and the state behind it
abbrev pub turn_of : Turn → State × Action
turn_of t = (state_of t.stage, action_of t.action)

-- a state between two records
abbrev pub is_between : State → Bool
is_between st.StartRecord = true
is_between st.StartField = false
is_between st.InField = false
is_between st.InQuoted = false
is_between st.AfterQuote = false
is_between st.InEscape = false
is_between st.InComment = false
is_between st.AfterCr = true
