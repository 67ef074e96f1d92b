-- The two ends of a connection.

-- which end of a connection
pub data Side : Type 0 where
  AtServer : Side
  AtClient : Side
