use Rattle.dmr_hearing.proofs.Undamaged.{data_recorded, voice_sync_recorded, voice_recorded, foreign_data_recorded}
use Rattle.dmr_hearing.proofs.Undamaged.{foreign_voice_recorded}
use Rattle.dmr_hearing.proofs.laws.sent_is_recorded.Goals as goal

pub returns-clause-data : goal.returns-clause-data
returns-clause-data c = data_recorded

pub returns-clause-voice_sync : goal.returns-clause-voice_sync
returns-clause-voice_sync c = voice_sync_recorded

pub returns-clause-voice : goal.returns-clause-voice
returns-clause-voice c = voice_recorded

pub returns-clause-foreign_data : goal.returns-clause-foreign_data
returns-clause-foreign_data c = foreign_data_recorded

pub returns-clause-foreign_voice : goal.returns-clause-foreign_voice
returns-clause-foreign_voice c = foreign_voice_recorded
