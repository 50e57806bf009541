mod KindsRead
